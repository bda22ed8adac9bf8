use Rattle.std.proofs.Common.{◌≡◌, ◌+◌, ◌≤◌, [], ◌∷◌, ◌++◌, length, ℤ, pos, negsuc, nat_abs, ◌<ℤ◌, decimal, refl, ap, ◌∙◌, arith, rules}
use Rattle.std.specs.Fmt.{signed_decimal}
use Rattle.std.proofs.lemmas.Int.{ints}
use Rattle.message.proofs.Pages.{writes_on, writes_as}
use Rattle.message.proofs.weight_kind.WeightLiteral.write.Goals as goal

signed_minus : (z : ℤ) → z <ℤ pos 0 → (45 ∷ []) ++ decimal (nat_abs z) ≡ signed_decimal z
signed_minus (pos n) h = absurd (grind (arith, ints))
signed_minus (negsuc n) h = refl

pub returns-then-self-lt0 : goal.returns-then-self-lt0
returns-then-self-lt0 c =
    let size : c.unsigned_abs-size.result ≡ nat_abs c.args.self.value = search rules in
    let less : c.args.self.value <ℤ pos 0 = search (rules, ints) in
    let room : c.args.at + length (signed_decimal c.args.self.value) ≤ length c.args.page.now = search rules in
    let e : (45 ∷ []) ++ decimal c.unsigned_abs-size.result ≡ signed_decimal c.args.self.value = ap (λ n. (45 ∷ []) ++ decimal n) size ∙ signed_minus c.args.self.value less in
    writes_as c.args.page.now c.write_number.new.page c.args.at ((45 ∷ []) ++ decimal c.unsigned_abs-size.result) (signed_decimal c.args.self.value) c.write_number.result e
    (writes_on c.args.page.now _ c.write_number.new.page c.args.at _ (45 ∷ []) (decimal c.unsigned_abs-size.result) c.write_number.result (omega (arith, room, ap length e)) c.in_ok-from.ensures c.write_number.ensures)
