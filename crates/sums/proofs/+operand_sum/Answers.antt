-- `operand` and `sum`: each way out of a term and of a sum is a law; a turn of the sum goes on behind the sign.
use mathlib.Core.Path.{sym, ◌∙◌}
use native.Mathlib.Omega.{arith}
use Prim.Native.Nat.{ℕ}
use lib.Dec.{eqb}
use borrow.Author.Rules.{rules}
use Rattle.grammar.proofs.Lies.{behind_from, start_from}
use Rattle.grammar.proofs.Sums.{term_value}
use Rattle.sums.proofs.Ways.{seen, number_small, closed_small, term_digits, term_number, term_deep, term_inner, term_open, term_group, sum_stays, join_stays, sum_ends, sign_inside, Further, sum_again}
use Rattle.std.proofs.lemmas.Result.{err_from_is_err_and}
use Rattle.sums.proofs.+operand_sum.Goals as goal

pub operand-returns-in_err-value : goal.operand-returns-in_err-value
operand-returns-in_err-value t c =
    let p = err_from_is_err_and c.from_residual.result c.from_residual.ensures.1 in
    rw (p.1, p.2) (term_digits _ _ _ c.byte_at-minus.ensures c.start_of-from.ensures c.byte_at.ensures c.if-byte_at-ne40.true
    c.in_err-value.ensures)

pub operand-overflow_add-value : goal.operand-overflow_add-value
operand-overflow_add-value t c = omega (arith, number_small _ _ _ _ c.in_ok-value.ensures)

pub operand-negate-requires : goal.operand-negate-requires
operand-negate-requires t c = omega (arith, number_small _ _ _ _ c.in_ok-value.ensures)

pub operand-returns-then-byte_at-ne40 : goal.operand-returns-then-byte_at-ne40
operand-returns-then-byte_at-ne40 t c =
    term_number _ _ _ c.byte_at-minus.ensures c.start_of-from.ensures c.byte_at.ensures c.if-byte_at-ne40.true
    c.in_ok-value.ensures c.negate.ensures

pub operand-returns-then-depth-eq0 : goal.operand-returns-then-depth-eq0
operand-returns-then-depth-eq0 t c =
    term_deep _ _ _ c.byte_at-minus.ensures c.start_of-from.ensures c.byte_at.ensures c.if-byte_at-ne40.false
    c.if-depth-eq0.true

pub operand-overflow_add-from : goal.operand-overflow_add-from
operand-overflow_add-from t c =
    omega (arith, seen c.args.s.now c.start_of-from.result c.byte_at.ensures (search rules))

pub operand-sum-requires : goal.operand-sum-requires
operand-sum-requires t c =
    let a = c.args in
    let from = c.start_of-from.result in (
      omega (
        arith,
        c.skip.ensures,
        behind_from a.s.now from,
        c.start_of-from.ensures,
        start_from a.s.now a.at,
        seen a.s.now from c.byte_at.ensures (search rules),
      ),
      tt,
    )

pub operand-returns-in_err-value-2 : goal.operand-returns-in_err-value-2
operand-returns-in_err-value-2 t c =
    let p = err_from_is_err_and c.from_residual-in_err-value-2.result c.from_residual-in_err-value-2.ensures.1 in
    rw (p.1, p.2) (term_inner _ _ _ c.byte_at-minus.ensures c.start_of-from.ensures c.byte_at.ensures c.if-byte_at-ne40.false
    c.if-depth-eq0.false c.skip.ensures c.in_err-value-2.ensures)

pub operand-returns-in_err-value-3 : goal.operand-returns-in_err-value-3
operand-returns-in_err-value-3 t c =
    let p = err_from_is_err_and c.from_residual-in_err-value-3.result c.from_residual-in_err-value-3.ensures.1 in
    rw (p.1, p.2) (term_open _ _ _ c.byte_at-minus.ensures c.start_of-from.ensures c.byte_at.ensures c.if-byte_at-ne40.false
    c.if-depth-eq0.false c.skip.ensures c.in_ok-value-2.ensures c.in_err-value-3.ensures)

pub operand-negate-requires-2 : goal.operand-negate-requires-2
operand-negate-requires-2 t c = closed_small _ _ _ _ _ _ _ c.in_ok-value-2.ensures c.in_ok-value-3.ensures

pub operand-returns : goal.operand-returns
operand-returns t c =
    term_group _ _ _ c.byte_at-minus.ensures c.start_of-from.ensures c.byte_at.ensures c.if-byte_at-ne40.false
    c.if-depth-eq0.false c.skip.ensures c.in_ok-value-2.ensures c.in_ok-value-3.ensures c.negate-2.ensures

pub sum-returns-in_err-value : goal.sum-returns-in_err-value
sum-returns-in_err-value t c =
    let p = err_from_is_err_and c.from_residual.result c.from_residual.ensures.1 in
    rw (p.1, p.2) (sum_stays _ _ _ _ _ _ c.operand.ensures c.in_err-value.was ∙ c.loop-value.invariant.2)

pub sum-join-requires : goal.sum-join-requires
sum-join-requires t c =
    (c.loop-value.invariant.1, (term_value c.args.s.now c.loop-value.from c.args.depth _ _ (sym c.in_ok-value.ensures)).2)

pub sum-returns-in_err-total : goal.sum-returns-in_err-total
sum-returns-in_err-total t c =
    let p = err_from_is_err_and c.from_residual-in_err-total.result c.from_residual-in_err-total.ensures.1 in
    rw (p.1, p.2) (join_stays _ _ _ _ _ _ c.operand.ensures c.in_ok-value.was c.join.ensures c.in_err-total.was
    ∙ c.loop-value.invariant.2)

pub sum-returns-then-c : goal.sum-returns-then-c
sum-returns-then-c t c =
    sum_ends _ _ _ _ _ _ c.operand.ensures c.in_ok-value.was c.join.ensures c.in_ok-total.was c.skip-sign.ensures
    c.byte_at-c.ensures c.if-c.true ∙ c.loop-value.invariant.2

pub sum-overflow_add-sign : goal.sum-overflow_add-sign
sum-overflow_add-sign t c =
    omega (arith, c.well_formed, sign_inside c.args.s.now c.skip-sign.result c.byte_at-c.ensures c.if-c.false)

-- a turn goes on behind the sign
onward : (t : ℕ) (c : goal.sum-After-skip-from t)
    → Further c.args.s.now c.args.at c.loop-value.from c.loop-value.acc c.loop-value.minus c.args.depth c.skip-from.result
    c.in_ok-total.total (eqb c.byte_at-c.result 45)
onward t c =
    sum_again _ _ _ _ _ _ c.operand.ensures c.in_ok-value.was c.join.ensures c.in_ok-total.was c.skip-sign.ensures
    c.byte_at-c.ensures c.if-c.false c.skip-from.ensures

pub sum-loop-value-smaller : goal.sum-loop-value-smaller
sum-loop-value-smaller t c = let on = onward t c in omega arith

pub sum-loop-value-preserved : goal.sum-loop-value-preserved
sum-loop-value-preserved t c =
    let on = onward t c in
    (omega (arith, c.loop-value.invariant.0), on.fits, on.same ∙ c.loop-value.invariant.2)
