use Rattle.std.proofs.Common.{◌≡◌, ◌+◌, ◌-◌, ◌*◌, ◌≤◌, length, get_or, sym, ap, ◌∙◌, mul-le-mul, arith}
use Rattle.byte_polys.proofs.Columns.{products_next, products_low, products_all}
use Rattle.byte_polys.proofs.Zeros.{past_end}
use Rattle.byte_polys.proofs.product.column.Goals as goal

pub loop-i-init : goal.loop-i-init
loop-i-init c =
    let eight : length c.args.b.now ≡ 8 = omega arith in
    (sym (products_low c.args.a.now c.args.b.now c.args.k c.saturating_sub-i.result (past_end c.args.b.now 8 eight) (omega arith)), omega arith)

pub loop-i-preserved : goal.loop-i-preserved
loop-i-preserved c =
    let a = c.args.a.now in
    let b = c.args.b.now in
    let i = c.loop-i.i in
    let k = c.args.k in
    let x : get_or c.args.a.now c.loop-i.i 0 ≤ 255 = omega arith in
    let y : get_or c.args.b.now (c.args.k - c.loop-i.i) 0 ≤ 255 = omega arith in
    (ap (λ s. s + get_or a i 0 * get_or b (k - i) 0) c.loop-i.invariant.0 ∙ sym (products_next a b k i), omega (arith, mul-le-mul x y))

pub returns : goal.returns
returns c =
    let eight : length c.args.a.now ≡ 8 = omega arith in
    c.loop-i.invariant.0 ∙ products_all c.args.a.now c.args.b.now c.args.k c.loop-i.i (past_end c.args.a.now 8 eight) (omega arith)
