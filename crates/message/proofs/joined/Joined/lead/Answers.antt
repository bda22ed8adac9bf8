use Rattle.std.proofs.Common.{rules, ◌∙◌, ◌∷◌, [], Option, take, subst, ◌-◌, length, drop, None, Some}
use Rattle.std.proofs.lemmas.List.{take_rest}
use Rattle.std.proofs.lemmas.Bool.Decides.{Decides-eqb}
use Rattle.std.proofs.lemmas.Slice.Eq.{strip_prefix_is}
use Rattle.message.specs.Literals.{Found}
use Rattle.message.proofs.Joining.{right_decides, left_decides}
use Rattle.message.proofs.joined.Joined.lead.Goals as goal
use Rattle.message.proofs.joined.Joined.lead.Goals.{in_default-via-in-Some+in_default, in_default-via-in_default}

pub returns-in-Some-Some : goal.returns-in-Some-Some
returns-in-Some-Some g c =
    let P : Option g.row.A.Denot → Type 0 = λ o. Found g.A.Literal.literal (take c.lead-first.result.length c.args.s.now) o in
    let separated = strip_prefix_is Decides-eqb (take (length c.args.s.now - c.lead-first.result.length) (drop c.lead-first.result.length c.args.s.now)) (c.args.separator ∷ []) (Some c.in-Some-Some.rest) c.in-Some-Some.ensures.cases in
    right_decides g.A.Literal.literal g.B.Literal.literal c.args.separator c.requires c.args.s.now c.in-Some-Some.rest.now c.lead-first.result.length c.in-Some-Some.left c.lead-second.result c.map.result
    c.lead-first.ensures.longest.within (subst P c.in-Some-Some.is-0 c.lead-first.ensures.found) (rw take_rest at separated) c.lead-second.ensures (λ y j h. search rules) c.map.ensures.cases

pub returns-in_default : goal.returns-in_default
returns-in_default g c =
    let P : Option g.row.A.Denot → Type 0 = λ o. Found g.A.Literal.literal (take c.lead-first.result.length c.args.s.now) o in
    left_decides g.A.Literal.literal g.B.Literal.literal c.args.separator c.requires g.B.Message.initial c.args.s.now c.lead-first.result.length c.lead-first.ensures.longest
    (λ x e rest cut. elim c.in_default.branch [
      | in_default-via-in-Some+in_default w ↦
          let apart = strip_prefix_is Decides-eqb (take (length c.args.s.now - c.lead-first.result.length) (drop c.lead-first.result.length c.args.s.now)) (c.args.separator ∷ []) None w.in_default.ensures.cases in
          apart rest (take_rest c.args.s.now c.lead-first.result.length ∙ cut)
      | in_default-via-in_default w ↦ subst P w.in_default.is-0 c.lead-first.ensures.found x e
    ])
