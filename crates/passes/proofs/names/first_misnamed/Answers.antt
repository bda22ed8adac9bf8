use Rattle.std.proofs.Common.{IsTrue, ◌↔◌, inl, inr}
use Rattle.grammar.specs.Parts.{parts_of}
use Rattle.passes.specs.Ranges.{AllRanged}
use Rattle.passes.specs.Names.{Misnamed, DeclaredAgain}
use Rattle.passes.proofs.Firsts.{passed_more, first_here}
use Rattle.passes.proofs.Declaring.{knows_next, declared_again, names_nothing, named_well, body_0_missing, all_named_well}
use Rattle.passes.proofs.names.first_misnamed.Goals as goal
use Rattle.passes.proofs.names.first_misnamed.Goals.{After-declare, then-declare-via-then-declare, then-declare-via-else-declare+then-lacks}

again : (c : After-declare) → AllRanged (parts_of c.args.parts.now) → IsTrue c.declare.result ↔ DeclaredAgain (parts_of c.args.parts.now) c.loop-i.i
again c fair = declared_again c.args.parts.now c.loop-i.i _ c.loop-i-test.true fair c.loop-i.seen c.declare.new.self c.declare.result c.declare.ensures (c.loop-i.invariant fair).0

pub loop-i-preserved : goal.loop-i-preserved
loop-i-preserved c fair =
    let qs = c.args.parts.now in (
      knows_next qs c.loop-i.i _ c.loop-i-test.true fair c.loop-i.seen c.declare.new.self c.declare.result c.declare.ensures (c.loop-i.invariant fair).0,
      passed_more (Misnamed (parts_of qs)) c.loop-i.i (c.loop-i.invariant fair).1
          (named_well qs c.loop-i.i c.loop-i-test.true c.declare.result c.lacks.result
          (again (goal.at.loop-i-preserved c).After-declare fair)
          (names_nothing qs c.loop-i.i _ c.loop-i-test.true fair c.all_declared-declared.result c.lacks.result c.lacks.ensures (c.all_declared-declared.ensures fair))
          c.if-declare.false c.if-lacks.false),
    )

pub returns-then-declare : goal.returns-then-declare
returns-then-declare c fair =
    let qs = c.args.parts.now in
    first_here (Misnamed (parts_of qs)) c.loop-i.i (c.loop-i.invariant fair).1 (elim c.then-declare.branch [
      | then-declare-via-then-declare v ↦ inl ((again (goal.at.returns-then-declare c).After-declare fair).0 v.if-declare.true)
      | then-declare-via-else-declare+then-lacks v ↦ inr (inl ((names_nothing qs c.loop-i.i _ c.loop-i-test.true fair c.all_declared-declared.result v.lacks.result v.lacks.ensures (c.all_declared-declared.ensures fair)).0 v.if-lacks.true))
    ])

pub returns-then-contains : goal.returns-then-contains
returns-then-contains c fair = all_named_well c.args.parts.now c.loop-i.i c.all_declared-declared.result c.contains.result c.loop-i-test.false (c.loop-i.invariant fair).1 (c.all_declared-declared.ensures fair) c.contains.ensures c.if-contains.true

pub returns-else-contains : goal.returns-else-contains
returns-else-contains c fair = body_0_missing c.args.parts.now c.loop-i.i c.all_declared-declared.result c.contains.result c.loop-i-test.false (c.loop-i.invariant fair).1 (c.all_declared-declared.ensures fair) c.contains.ensures c.if-contains.false
