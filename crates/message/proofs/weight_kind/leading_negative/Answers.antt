use Rattle.std.proofs.Common.{ℕ, ◌<◌, Option, subst, add-one, arith, rules}
use Rattle.message.specs.Numerals.{LeadsNumber}
use Rattle.message.proofs.Weighing.{minus_longest, minus_alone, minus_found, never_minus}
use Rattle.message.proofs.weight_kind.leading_negative.Goals as goal

pub returns-in-Some : goal.returns-in-Some
returns-in-Some c =
    let P : Option ℕ → Type 0 = λ o. LeadsNumber c.args.rest.now 2147483648 (record { length = c.leading_number-digits.result.length; value = o }) in
    let l = subst P c.in-Some.is (rw c.unsigned_abs.ensures.value at c.leading_number-digits.ensures) in
    let some : 0 < c.in-Some.n = omega arith in
    record {
      longest = rw add-one (minus_longest c.args.rest.now c.leading_number-digits.result.length c.in-Some.n l some);
      found = rw add-one (minus_found c.args.rest.now c.leading_number-digits.result.length c.in-Some.n c.checked_sub_unsigned.result c.map.result l.found.1 some l.found.0 c.checked_sub_unsigned.ensures (λ z w h. search (rules, h)) c.map.ensures.cases);
    }

pub returns-in_default : goal.returns-in_default
returns-in_default c = record {
  longest = minus_alone _ c.leading_number-digits.result (rw c.unsigned_abs.ensures.value at c.leading_number-digits.ensures) (λ n e. grind (arith, c.in-Some.is, c.if-n-gt0.false));
  found = never_minus;
}

pub returns-in_default-2 : goal.returns-in_default-2
returns-in_default-2 c = record {
  longest = minus_alone _ c.leading_number-digits.result (rw c.unsigned_abs.ensures.value at c.leading_number-digits.ensures) (λ n e. grind (arith, c.in_default.is));
  found = never_minus;
}
