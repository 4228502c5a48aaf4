use Rattle.std.proofs.Common.{arith, refl}
use Rattle.bool_expr.specs.Read.{number_in}
use Rattle.bool_expr.proofs.Answered.{none_spelled, some_spelled, depth_of, answered, caused}
use Rattle.bool_expr.proofs.Full.{full_answer, full_found}
use Rattle.bool_expr.proofs.read.read_expr_over.Goals as goal

pub returns-in-Some-clause-full : goal.returns-in-Some-clause-full
returns-in-Some-clause-full c = full_found c.args.variables.now c.args.text.now c.single.result c.in-Some.answer c.in-Some.is c.single.ensures.cause

pub returns-in_default-2-clause-exact : goal.returns-in_default-2-clause-exact
returns-in_default-2-clause-exact c = none_spelled c.args.text.now c.in_ok-depth.field-0 c.in_ok-depth.ensures c.in_default-2.is

pub returns-in_default-2-clause-cause : goal.returns-in_default-2-clause-cause
returns-in_default-2-clause-cause c = none_spelled c.args.text.now c.in_ok-depth.field-0 c.in_ok-depth.ensures c.in_default-2.is

pub returns-then-depth-gt-MAX_NESTING-clause-exact : goal.returns-then-depth-gt-MAX_NESTING-clause-exact
returns-then-depth-gt-MAX_NESTING-clause-exact c = λ d s.
    let e = depth_of c.args.text.now c.in_ok-depth.field-0 c.in-Some-2.depth c.in_ok-depth.ensures c.in-Some-2.is d s in
    omega (arith, c.if-depth-gt-MAX_NESTING.true)

pub returns-then-depth-gt-MAX_NESTING-clause-cause : goal.returns-then-depth-gt-MAX_NESTING-clause-cause
returns-then-depth-gt-MAX_NESTING-clause-cause c =
    let d = some_spelled c.args.text.now c.in_ok-depth.field-0 c.in-Some-2.depth c.in_ok-depth.ensures c.in-Some-2.is in
    let e = depth_of c.args.text.now c.in_ok-depth.field-0 c.in-Some-2.depth c.in_ok-depth.ensures c.in-Some-2.is d.0 d.1 in
    (d.0, d.1, omega (arith, c.if-depth-gt-MAX_NESTING.true))

pub returns-clause-exact : goal.returns-clause-exact
returns-clause-exact c = λ d s.
    answered c.args.variables.now c.args.text.now c.in-Some-2.depth (number_in c.args.variables.now) c.expr_of.result c.if-depth-gt-MAX_NESTING.false refl c.expr_of.ensures.ok c.expr_of.ensures.known c.expr_of.ensures.err d s
    (depth_of c.args.text.now c.in_ok-depth.field-0 c.in-Some-2.depth c.in_ok-depth.ensures c.in-Some-2.is d s)

pub returns-clause-cause : goal.returns-clause-cause
returns-clause-cause c =
    let d = some_spelled c.args.text.now c.in_ok-depth.field-0 c.in-Some-2.depth c.in_ok-depth.ensures c.in-Some-2.is in
    caused c.args.variables.now c.args.text.now c.expr_of.result d.0 d.1
    (answered c.args.variables.now c.args.text.now c.in-Some-2.depth (number_in c.args.variables.now) c.expr_of.result c.if-depth-gt-MAX_NESTING.false refl c.expr_of.ensures.ok c.expr_of.ensures.known c.expr_of.ensures.err d.0 d.1
    (depth_of c.args.text.now c.in_ok-depth.field-0 c.in-Some-2.depth c.in_ok-depth.ensures c.in-Some-2.is d.0 d.1))

pub returns-clause-full : goal.returns-clause-full
returns-clause-full c = full_answer c.args.variables.now c.args.text.now c.expr_of.result (returns-clause-cause c)
