use Rattle.std.proofs.Common.{◌≡◌, refl, codes, arith, rules}
use Rattle.std.proofs.lemmas.Slice.Eq.{text_from_reads}
use Rattle.pp_text.specs.steps.View.{tokens_of}
use Rattle.pp_text.proofs.FirstWordLemmas.{IsNoCode, none-some, no-code}
use Rattle.pp_text.proofs.node.code_of.Goals as goal

pub returns-in-store-clause-found : goal.returns-in-store-clause-found
returns-in-store-clause-found c =
    let word : c.args.word.now ≡ codes "store" = text_from_reads c.args.word.now (codes "store") (omega arith) (search rules) in
    rw word c.store_in.ensures.found

pub returns-in-muladd-clause-found : goal.returns-in-muladd-clause-found
returns-in-muladd-clause-found c =
    let word : c.args.word.now ≡ codes "muladd" = text_from_reads c.args.word.now (codes "muladd") (omega arith) (search rules) in
    rw word c.muladd_in.ensures.found

pub returns-in_err-constant_of-in_default-clause-only : goal.returns-in_err-constant_of-in_default-clause-only
returns-in_err-constant_of-in_default-clause-only c = λ what s.
    let none : IsNoCode c.args.word.now = record {
      no_call = λ e. search rules;
      no_store = λ e. search rules;
      no_load = λ e. search rules;
      no_muladd = λ e. search rules;
      no_constant = λ what e. none-some what _ refl (c.in_err-constant_of-in_default.ensures.only what e);
    } in
    absurd (no-code c.args.word.now (tokens_of c.args.rest.now) none what s)
