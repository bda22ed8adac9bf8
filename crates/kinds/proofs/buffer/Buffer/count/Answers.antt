use Rattle.std.proofs.Common.{◌≡◌, ℕ, List, length, get_or, None, Some, Option, MatchOption, unwrap_or, option_map, sym, ◌∙◌, Bor, rules, arith}
use Rattle.kinds.specs.declared.ring.Ring.{Ring}
use Rattle.kinds.specs.Holders.{empty, held_in}
use Rattle.kinds.specs.Held.{length_ring}
use Rattle.kinds.proofs.buffer.Buffer.count.Goals as goal

count_of : {Q : Bor Ring → Type 0} (r : Option (Bor Ring)) (n : ℕ) → MatchOption r (n ≡ 0) Q → ((x : Bor Ring) → Q x → n ≡ x.now.count)
    → n ≡ (unwrap_or (option_map (λ x. x.now) r) empty).count
count_of None n h k = h
count_of (Some x) n h k = k x h

held_count : (rings : List Ring) (p q : ℕ) (r : Ring) → r ≡ get_or rings q empty → q ≡ p → r.count ≡ length (held_in rings p)
held_count rings p q r e f = rw (e, f) (sym (length_ring _ _))

pub returns : goal.returns
returns g c =
    count_of c.get.result c.map_or.result c.map_or.ensures (λ x h. search rules)
    ∙ held_count c.args.self.now.rings c.args.port c.from.result _ (c.get.ensures.lookup.4 (omega arith) empty) c.from.ensures
