use Rattle.std.proofs.Common.{◌≡◌, ◌<◌, true, length, take, sym, ap, ◌∙◌, subst, arith, take_all, false-eqb}
use Rattle.wording.specs.Decimal.{all_digits, positional, fitting}
use Rattle.wording.proofs.Digits.{all_more, positional_more, spoiled, read_row}
use Rattle.wording.proofs.number.decimal.Goals as goal

pub returns-then-not-is_ascii_digit : goal.returns-then-not-is_ascii_digit
returns-then-not-is_ascii_digit c =
    let xs = c.args.text.now in
    let i = c.loop-b.b-index in
    let h = c.if-not-is_ascii_digit.ensures.value in
    spoiled xs i c.loop-b-test.true (sym h)

pub loop-b-preserved : goal.loop-b-preserved
loop-b-preserved c =
    let xs = c.args.text.now in
    let i = c.loop-b.b-index in
    let more = positional_more xs i c.loop-b-test.true in
    let h = c.if-not-is_ascii_digit.ensures.value in (
      all_more xs i c.loop-b-test.true (sym h) c.loop-b.invariant.0,
      c.shifted-value.ensures (positional (take i xs)) c.loop-b.invariant.1 ∙ ap fitting (sym more),
    )

pub returns : goal.returns
returns c =
    let xs = c.args.text.now in
    let all = take_all c.loop-b.b-index xs c.loop-b-test.false in
    let some : 0 < length xs = omega (arith, false-eqb _ _ c.if-is_empty.ensures) in
    c.ok_or.ensures.value ∙ read_row xs c.loop-b.value some (subst (λ ys. all_digits ys ≡ true) all c.loop-b.invariant.0) (c.loop-b.invariant.1 ∙ ap (λ ys. fitting (positional ys)) all)
