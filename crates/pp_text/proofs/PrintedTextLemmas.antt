-- The printed text of a graph is a text, which tells the calls of the graph.
use Rattle.std.proofs.Common.{◌≡◌, ℕ, suc, ◌+◌, ◌≤◌, List, [], ◌∷◌, ◌++◌, true, length, map, flat_map, Some, refl, ap, sym, ◌∙◌, arith, append_assoc}
use Rattle.std.specs.Prelude.{codes}
use Rattle.std.specs.List.{list_all}
use Rattle.std.specs.Prelude.{None as none}
use Rattle.std.proofs.lemmas.List.{append-nil}
use Rattle.pp_rules.specs.declared.call.BuilderCall.{BuilderCall}
use Rattle.pp_graph.specs.Calls.{HasForm}
use Rattle.pp_graph.specs.Plan.{Plan}
use Rattle.pp_graph.proofs.TableLemmas.{Each}
use Rattle.pp_text.specs.Tokens.{is_printed}
use Rattle.pp_text.specs.Sequence.{Follow}
use Rattle.pp_text.specs.Text.{Told, nothing, tell, first_tokens, end_tokens, limit, lines_text, Through, RowLeads, RowEnds, Whole, BeginWithText}
use Rattle.pp_text.specs.Telling.{calls_of}
use Rattle.pp_text.specs.Printed.{printed, printed_line, printed_tokens, spaced}
use Rattle.pp_text.proofs.PrintedTokenLemmas.{CallInRange, tokens-are}
use Rattle.pp_text.proofs.PrintedLineLemmas.{spaced-printed, printed-one_line, printed-row, tokens-row, row-leads}

-- a call of a form, whose numbers lie within their types
abbrev pub CanBePrinted : BuilderCall → Type 0
CanBePrinted c = HasForm c × CallInRange c

-- the line of a call without its LF
abbrev content_of : BuilderCall → List ℕ
content_of c = spaced (printed_tokens c)

lines-text : (calls : List BuilderCall) → flat_map printed_line calls ≡ lines_text (map content_of calls)
lines-text [] = refl
lines-text (c ∷ calls) = ap (λ text. printed_line c ++ text) (lines-text calls)

-- what calls tell, a line each
abbrev pub told_after : ℕ → Told → List BuilderCall → Told
told_after line told [] = told
told_after line told (c ∷ calls) = told_after (suc line) (tell line (c ∷ []) told) calls

pub told-calls : (line : ℕ) (told : Told) (calls : List BuilderCall) → (told_after line told calls).calls ≡ told.calls ++ calls
told-calls line told [] = sym (append-nil told.calls)
told-calls line told (c ∷ calls) =
    told-calls (suc line) (tell line (c ∷ []) told) calls ∙ append_assoc told.calls (c ∷ []) calls

lines-through : (line : ℕ) (told : Told) (calls : List BuilderCall) → Each CanBePrinted calls → Follow told.calls calls → Through line (map content_of calls) (Some told) (Some (told_after line told calls))
lines-through line told [] h f = refl
lines-through line told (c ∷ calls) h f =
    let all : list_all is_printed (content_of c) ≡ true = spaced-printed (printed_tokens c) (tokens-are c h.0.0 h.0.1) in (
      content_of c,
      Some (tell line (c ∷ []) told),
      printed-one_line (content_of c) all,
      printed-row (content_of c) all,
      row-leads line told c h.0.0 h.0.1 f.0,
      lines-through (suc line) (tell line (c ∷ []) told) calls h.1 f.1,
    )

-- the first line and the last
first-leads : RowLeads 1 (codes "graph 1") none (Some nothing)
first-leads = record {
  first = first_tokens;
  others = [];
  row_is = tokens-row first_tokens (refl, (refl, tt));
  lead = (Some nothing, (refl, refl), refl);
}

end-ends : (line : ℕ) (told : Told) → RowEnds line (codes "end") (Some told) told
end-ends line told = record {
  first = end_tokens;
  others = [];
  statements = [];
  row_is = tokens-row end_tokens (refl, tt);
  last = refl;
  lead = refl;
}

-- what the printed calls tell, and the line of `end`
abbrev pub told_by : List BuilderCall → Told
told_by calls = told_after 2 nothing calls

abbrev pub last_of : List BuilderCall → ℕ
last_of calls = 1 + length (codes "graph 1" ∷ map content_of calls)

pub printed-text : (g : Plan) → Each CanBePrinted (calls_of g) → Follow [] (calls_of g) → length (printed g) ≤ limit → BeginWithText (printed g) (told_by (calls_of g)) (last_of (calls_of g)) []
printed-text g h f short = record {
  contents = codes "graph 1" ∷ map content_of (calls_of g);
  between = Some (told_by (calls_of g));
  tail = codes "end\n";
  end = Whole (codes "end") [];
  lines = record {
    split = ap (λ text. codes "graph 1\n" ++ text ++ codes "end\n") (lines-text (calls_of g));
    lead = (
      codes "graph 1",
      Some nothing,
      printed-one_line (codes "graph 1") refl,
      printed-row (codes "graph 1") refl,
      first-leads,
      lines-through 2 nothing (calls_of g) h f,
    );
  };
  number = refl;
  last_line = (codes "end", printed-one_line (codes "end") refl, printed-row (codes "end") refl, refl);
  ends = end-ends (last_of (calls_of g)) (told_by (calls_of g));
  behind = refl;
  within = omega (arith, short);
}
