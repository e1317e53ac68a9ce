-- An input of `trace` in order is not refused.
use Rattle.std.proofs.Common.{◌≡◌, ℕ, ◌≤◌, inl, inr, List, length, sym, ap, subst, ◌∙◌}
use Rattle.std.specs.Prelude.{Result, IfErr}
use Rattle.std.specs.Result.{IsErrAnd}
use Rattle.pp_graph.specs.Plan.{Plan}
use Rattle.pp_mean.specs.Plain.{IsPlain}
use Rattle.pp_tool.specs.declared.refusal.Refusal.TheVariants as refusal
use Rattle.pp_tool.specs.declared.stop.Stop.{Stop}
use Rattle.pp_tool.specs.declared.stop.Stop.TheVariants as stop
use Rattle.pp_tool.specs.Verdict.{Gives, IsOnly, Test, Stops}
use Rattle.pp_tool.specs.Capture.{IsCapture}
use Rattle.pp_tool.specs.GraphText.{Begun}
use Rattle.pp_tool.specs.Checks.{IsAccepted}
use Rattle.pp_tool.specs.Trace.{capture_limit, HasShortRest, IsTraced}
use Rattle.pp_tool.specs.steps.Reading.{IsTheGraph, IsTakenStop}
use Rattle.pp_tool.specs.steps.Checking.{IsCheckStop}
use Rattle.pp_tool.specs.steps.Stops.{IsNoRefusal}
use Rattle.pp_tool.proofs.VerdictLemmas.{err_is}
use Rattle.pp_tool.proofs.CheckLemmas.{not_accepted}

-- an error that `?` hands on
pub not_refused : {A : Type 0} (result : Result A Stop) (s : Stop) → IsErrAnd result (λ x. x ≡ s) → IsNoRefusal s → IfErr result IsNoRefusal
not_refused result s i h = subst (λ r. IfErr r IsNoRefusal) (sym (err_is result s i)) h

-- its text is not refused
pub order_text : (bytes : List ℕ) (s : Stop) → IsTakenStop bytes s → IsTraced bytes → IsNoRefusal s
order_text bytes s (inl e) order = subst IsNoRefusal (sym e) tt
order_text bytes s (inr (inl e)) order = subst IsNoRefusal (sym e) tt
order_text bytes s (inr (inr h)) order = absurd (h.2.none order.g order.graph.last order.rest order.graph.graph)

module _ (bytes : List ℕ) (g : Plan) (last : ℕ) (rest : List ℕ) (the : IsTheGraph bytes g last rest) (order : IsTraced bytes) where
  -- the graph that was read is the one of the input in order
  same_graph : order.g ≡ g
  same_graph = (the.only order.g order.graph.last order.rest order.graph.graph).0

  same_rest : order.rest ≡ rest
  same_rest = (the.only order.g order.graph.last order.rest order.graph.graph).1

  pub order_plain : IsPlain g
  order_plain = subst IsPlain same_graph order.graph.plain

  short : length rest ≤ capture_limit
  short = subst (λ (r : List ℕ). length r ≤ capture_limit) same_rest order.short

  -- what follows it is not too long
  pub order_rest : (s : Stop) → Stops (Test HasShortRest refusal.TooLong (g, rest)) s → IsNoRefusal s
  order_rest (stop.Refused why) h = absurd (h.0.0 short)
  order_rest stop.ReadFault h = tt
  order_rest stop.WriteFault h = tt
  order_rest stop.NoMemory h = tt

  -- and is a capture
  pub order_capture : (kept : List ℕ) → IsOnly (Test HasShortRest refusal.TooLong (g, rest)) (Gives (g, kept)) → IsCapture kept order.parts
  order_capture kept only =
      let kept_is : kept ≡ rest = ap (λ (b : Begun). b.1) only.0.1 in
      subst (λ (r : List ℕ). IsCapture r order.parts) (same_rest ∙ sym kept_is) order.capture

  -- the checks do not fail
  pub order_checks : (s : Stop) → IsCheckStop g s → IsNoRefusal s
  order_checks s (inl e) = subst IsNoRefusal (sym e) tt
  order_checks s (inr h) = absurd (not_accepted g h.0 (subst IsAccepted same_graph order.graph.accepted) h.2)
