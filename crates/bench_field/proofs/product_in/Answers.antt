use Rattle.std.proofs.Common.{eq-eqb, ne_eqb, arith}
use Rattle.bench_field.specs.Tables.{through_tables}
use Rattle.bench_field.specs.TablesLaws.{through-low, through-high}
use Rattle.bench_field.proofs.product_in.Goals as goal

pub returns-then-a-eq0 : goal.returns-then-a-eq0
unfolding through_tables
returns-then-a-eq0 c = simp (eq-eqb _ _ c.if-a-eq0.true)

pub returns-then-b-eq0 : goal.returns-then-b-eq0
unfolding through_tables
returns-then-b-eq0 c = simp (ne_eqb _ _ c.if-a-eq0.false, eq-eqb _ _ c.if-b-eq0.true)

pub returns-then-s-lt255 : goal.returns-then-s-lt255
returns-then-s-lt255 c =
    through-low c.args.p.now c.args.l.now c.args.a c.args.b c.from-2.result c.from-4.result c.if-a-eq0.false
    c.if-b-eq0.false
    (cc) (cc) (omega arith)

pub returns-else-s-lt255 : goal.returns-else-s-lt255
returns-else-s-lt255 c =
    through-high c.args.p.now c.args.l.now c.args.a c.args.b c.from-2.result c.from-4.result c.if-a-eq0.false
    c.if-b-eq0.false
    (cc) (cc) (omega arith)
