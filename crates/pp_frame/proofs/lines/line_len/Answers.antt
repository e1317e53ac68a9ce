use Rattle.std.proofs.Common.{◌≡◌, ℕ, ◌+◌, ◌-◌, get_or, inl, inr, arith, sym, ap, ◌∙◌}
use Rattle.std.proofs.lemmas.Bool.{cases_lt}
use Rattle.std.proofs.lemmas.List.{get_or_past}
use Rattle.pp_frame.proofs.LineLemmas.{begins_with_line}
use Rattle.pp_frame.proofs.lines.line_len.Goals as goal
use Rattle.pp_frame.proofs.lines.line_len.Goals.{else-bytes-i-eq13-via-then-bytes-i-eq13+else-bytes-i-eq10, else-bytes-i-eq13-via-else-bytes-i-eq13}

pub returns-then-bytes-i-eq10-clause-some : goal.returns-then-bytes-i-eq10-clause-some
returns-then-bytes-i-eq10-clause-some c =
    let bytes = c.args.bytes.now in
    let place : c.loop-i.i - 1 + 1 ≡ c.loop-i.i = omega arith in
    begins_with_line bytes (c.loop-i.i - 1) (omega arith) c.if-bytes-i-eq13.true (ap (λ (k : ℕ). get_or bytes k 0) place ∙ c.if-bytes-i-eq10.true)
    (λ k below cr lf. c.loop-i.invariant k (omega arith) cr lf)

pub loop-i-preserved : goal.loop-i-preserved
loop-i-preserved c = λ k below cr lf. elim (cases_lt (k + 1) c.loop-i.i) [
  | inl earlier ↦ c.loop-i.invariant k earlier cr lf
  | inr here ↦
      let place : k + 1 ≡ c.loop-i.i = omega arith in
      let before : k ≡ c.loop-i.i - 1 = omega arith in
      let bytes = c.args.bytes.now in
      let cr_here : get_or bytes (c.loop-i.i - 1) 0 ≡ 13 = ap (λ (n : ℕ). get_or bytes n 0) (sym before) ∙ cr in
      let lf_here : get_or bytes c.loop-i.i 0 ≡ 10 = ap (λ (n : ℕ). get_or bytes n 0) (sym place) ∙ lf in
      elim c.else-bytes-i-eq13.branch [
        | else-bytes-i-eq13-via-then-bytes-i-eq13+else-bytes-i-eq10 w ↦ w.if-bytes-i-eq10.false lf_here
        | else-bytes-i-eq13-via-else-bytes-i-eq13 w ↦ w.if-bytes-i-eq13.false cr_here
      ]
]

pub returns-clause-none : goal.returns-clause-none
returns-clause-none c = λ k cr lf. elim (cases_lt (k + 1) c.loop-i.i) [
  | inl earlier ↦ c.loop-i.invariant k earlier cr lf
  | inr past ↦ absurd (omega (arith, lf, get_or_past c.args.bytes.now (k + 1) 0 (omega arith)))
]
