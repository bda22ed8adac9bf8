-- A text is one script at most.
-- A numeral is known to tell its number only where that is bounded, so each script is first made one of bounded numbers.
use Rattle.std.proofs.Common.{◌≡◌, ℕ, suc, ◌+◌, ◌%◌, ◌^◌, ◌<◌, ◌≤◌, false, eqb, List, [], ◌∷◌, ◌++◌, map, get_or, ℤ, pos, negsuc, decimal, sym, refl, ap, ◌∙◌, subst, ap₂, inl, inr, arith}
use native.Mathlib.Bridge.{le_prop}
use lib.Signed.{mag}
use Rattle.std.specs.Fmt.{signed_decimal}
use Rattle.std.specs.List.{AllByRecursion}
use Rattle.std.proofs.lemmas.Fmt.{decimal_digit, decimal_by_steps, first_decimal, decimal_injective}
use Rattle.std.proofs.ByRecursion.{All-push, All-weaker}
use Rattle.std.proofs.lemmas.Bool.{cases_lt, ne_eqb}
use Rattle.message.specs.declared.weight.Weight.{Weight}
use Rattle.message.specs.Literals.{PlainByte, Plain}
use Rattle.message.specs.Weights.{weight, weight_literal}
use Rattle.message.specs.Weighing.{weight_one}
use Rattle.tokens.specs.Tokens.{Lexeme, atom, runs, class, Run, Digits, Natural, Integer}
use Rattle.grammar.specs.declared.words.Keyword.TheVariants as word
use Rattle.grammar.specs.declared.words.BracketUse.{BracketUse}
use Rattle.grammar.specs.declared.words.BracketUse.TheVariants.{Open, OpenSecond, Close, CloseTask, CloseSync, CloseGuard, CloseNack}
use Rattle.grammar.specs.declared.words.NumberUse.TheVariants.{NewBody, NackBody}
use Rattle.grammar.specs.declared.words.Use.TheVariants.{Test}
use Rattle.grammar.specs.Grammar as g
use Rattle.grammar.specs.Grammar.{Part, part, part_lexemes, Spelling, form, each, number, test_word}
use Rattle.grammar.specs.Forms.{Uses, Injective, with_uses}
use Rattle.grammar.proofs.Determined.{uses_determined}
use Rattle.grammar.proofs.Images.{Proper, image_uses}
use Rattle.grammar.proofs.Once.{written_once}
use Rattle.grammar.proofs.Parts.{put_together}
use Rattle.passes.specs.Ranges.{last_port}
use Rattle.rows.specs.Scripts as s
use Rattle.rows.specs.Scripts.{spelling, ActionWithin, EventWithin, EventsWithin, InstrWithin, BodyWithin, Within, OneScript}

-- Numerals are integers.

natural : (bs : List ℕ) → 48 < get_or bs 0 0 → Digits bs → Natural bs
natural [] h d = absurd (omega arith)
natural (b ∷ bs) h d = (omega arith, d.0.1, d.1)

decimal_digits : (n : ℕ) → n < 2 ^ 64 → Digits (decimal n)
decimal_digits n f =
    let P : ℕ → Type 0 = λ b. (48 ≤ b) × (b ≤ 57) in
    decimal_by_steps (λ _ ds. AllByRecursion P ds)
    (λ m lt. ((omega arith, omega arith), tt))
    (λ m ds ge ih. All-push P ds (48 + m % 10) ih (omega arith, omega arith))
    n f

decimal_natural : (n : ℕ) → 0 < n → n < 2 ^ 64 → Natural (decimal n)
decimal_natural n some f = natural (decimal n) (first_decimal n some f) (decimal_digits n f)

decimal_integer : (n : ℕ) → n < 2 ^ 64 → Integer (decimal n)
decimal_integer n f = elim (cases_lt 0 n) [
  | inl some ↦ inr (inl (decimal_natural n some f))
  | inr none ↦ let e : n ≡ 0 = omega arith in inl (ap decimal e ∙ decimal_digit 0 (omega arith))
]

signed_integer : (z : ℤ) → mag z < 2147483648 → Integer (signed_decimal z)
signed_integer (pos n) h = decimal_integer n (omega arith)
signed_integer (negsuc n) h = inr (inr (refl, decimal_natural (suc n) (omega arith) (omega arith)))

-- Literals are runs.

plain_runs : (b : ℕ) → PlainByte b → class b ≡ runs
plain_runs b (low, high, apart) =
    let space : eqb b 32 ≡ false = ne_eqb b 32 (λ e. omega arith) in
    let tab : eqb b 9 ≡ false = ne_eqb b 9 (λ e. omega arith) in
    let feed : eqb b 10 ≡ false = ne_eqb b 10 (λ e. omega arith) in
    let return : eqb b 13 ≡ false = ne_eqb b 13 (λ e. omega arith) in
    let left : eqb b 40 ≡ false = ne_eqb b 40 (λ e. apart (inr (inr (inr (inl e))))) in
    let right : eqb b 41 ≡ false = ne_eqb b 41 (λ e. apart (inr (inr (inr (inr (inl e)))))) in
    rw (space, tab, feed, return, left, right)

plain_run : (bs : List ℕ) → Plain bs → Run bs
plain_run bs p = record { some = omega (arith, p.some); bytes = All-weaker PlainByte (λ b. class b ≡ runs) plain_runs bs p.bytes }

-- Bounded numbers; an added number is a weight.

record Small : Type 0 where
  value : ℕ
  fits : value < 2147483648

abbrev small : (n : ℕ) → n < 2147483648 → Small
small n h = record { value = n; fits = h }

same_small : (m n : Small) → m.value ≡ n.value → m ≡ n
same_small m n e =
    let P : ℕ → Type 0 = λ x. (h : x < 2147483648) → m ≡ small x h in
    subst P e (λ h. ap (small m.value) (le_prop m.fits h)) n.fits

abbrev bounded : {M : Type 0} → (M → List ℕ) → Spelling Small Weight M
bounded literal = record { number = λ n. decimal n.value; addend = weight_literal; literal = literal }

bounded_injective : {M : Type 0} (literal : M → List ℕ) → ((a b : M) → literal a ≡ literal b → a ≡ b) → Injective (bounded literal)
bounded_injective literal one = record {
  number = λ m n e. same_small m n (decimal_injective m.value n.value (omega (arith, m.fits)) (omega (arith, n.fits)) e);
  addend = weight_one;
  literal = one;
}

bounded_proper : {M : Type 0} (literal : M → List ℕ) → ((a : M) → Plain (literal a)) → Proper (bounded literal)
bounded_proper literal plain = record {
  number = λ n. decimal_integer n.value (omega (arith, n.fits));
  addend = λ k. signed_integer k.value k.fits;
  literal = λ m. plain_run (literal m) (plain m);
}

-- A script of bounded numbers without the bounds.

abbrev bare_port : g.Port Small → g.Port ℕ
bare_port p = record { kind = p.kind; number = p.number.value }

module _ {M : Type 0} where
  abbrev bare_action : g.Action Weight M → s.Action M
  bare_action (g.set l) = g.set l
  bare_action (g.add k) = g.add k.value

  abbrev mutual
    bare_event : g.Event Small Weight M → s.Event M
    bare_event g.never = g.never
    bare_event g.nack = g.nack
    bare_event (g.always l) = g.always l
    bare_event (g.send p) = g.send p.value
    bare_event (g.recv p) = g.recv p.value
    bare_event (g.timeout d) = g.timeout d.value
    bare_event (g.choose es) = g.choose (bare_events es)
    bare_event (g.wrap e a) = g.wrap (bare_event e) (bare_action a)
    bare_event (g.guard t e f) = g.guard t (bare_event e) (bare_event f)
    bare_event (g.with_nack b e) = g.with_nack b.value (bare_event e)

    bare_events : g.Events Small Weight M → s.Events M
    bare_events g.none = g.none
    bare_events (g.more e es) = g.more (bare_event e) (bare_events es)

  abbrev bare_instr : g.Instr Small Weight M → s.Instr M
  bare_instr (g.sync e) = g.sync (bare_event e)
  bare_instr (g.spawn b) = g.spawn b.value
  bare_instr g.emit = g.emit
  bare_instr g.again = g.again

  abbrev bare_body : g.Body Small Weight M → s.Body M
  bare_body b = record { number = b.number.value; instrs = map bare_instr b.instrs }

  abbrev bare_script : g.Script Small Weight M → s.Script M
  bare_script x = record { ports = map bare_port x.ports; first = bare_body x.first; others = map bare_body x.others }

-- What is within its ranges is one of bounded numbers, in the same parts.

abbrev Bounds : {A B : Type 0} → (B → A) → (B → List Part) → (A → List Part) → A → Type 0
Bounds {A} {B} f q p a = (b : B) × (f b ≡ a) × (q b ≡ p a)

bound_each : {A B : Type 0} (W : A → Type 0) (f : B → A) (q : B → List Part) (p : A → List Part) → ((a : A) → W a → Bounds f q p a) → (xs : List A) → AllByRecursion W xs → Bounds (map f) (each q) (each p) xs
bound_each W f q p one [] h = ([], refl, refl)
bound_each W f q p one (a ∷ xs) h =
    let x = one a h.0 in
    let y = bound_each W f q p one xs h.1 in
    (x.0 ∷ y.0, ap₂ ◌∷◌ x.1 y.1, ap₂ ◌++◌ x.2 y.2)

module _ {M : Type 0} (literal : M → List ℕ) where
  bound_action : (a : s.Action M) → ActionWithin a → Bounds bare_action (g.action {N = Small} (bounded literal)) (g.action {N = ℕ} (spelling literal)) a
  bound_action (g.set l) h = (g.set l, refl, refl)
  bound_action (g.add k) h = (g.add (weight k h), refl, refl)

  mutual
    bound_event : (e : s.Event M) → EventWithin e → (o : BracketUse) → Bounds bare_event (g.event (bounded literal) o) (g.event (spelling literal) o) e
    bound_event g.never h o = (g.never, refl, refl)
    bound_event g.nack h o = (g.nack, refl, refl)
    bound_event (g.always l) h o = (g.always l, refl, refl)
    bound_event (g.send p) h o = (g.send (small p (omega arith)), refl, refl)
    bound_event (g.recv p) h o = (g.recv (small p (omega arith)), refl, refl)
    bound_event (g.timeout d) h o = (g.timeout (small d (omega arith)), refl, refl)
    bound_event (g.choose es) h o =
        let x = bound_events es h in
        (g.choose x.0, ap g.choose x.1, ap (λ ps. form o word.Choose ps Close) x.2)
    bound_event (g.wrap e a) h o =
        let x = bound_event e h.0 Open in
        let y = bound_action a h.1 in
        (g.wrap x.0 y.0, ap₂ g.wrap x.1 y.1, ap₂ (λ ps qs. form o word.Wrap (ps ++ qs) Close) x.2 y.2)
    bound_event (g.guard t e f) h o =
        let x = bound_event e h.0 Open in
        let y = bound_event f h.1 OpenSecond in
        (g.guard t x.0 y.0, ap₂ (g.guard t) x.1 y.1, ap₂ (λ ps qs. form o word.Guard (part (Test t) (atom (test_word t)) ∷ (ps ++ qs)) CloseGuard) x.2 y.2)
    bound_event (g.with_nack b e) h o =
        let x = bound_event e h.1 Open in
        (g.with_nack (small b (omega (arith, h.0))) x.0, ap (g.with_nack b) x.1, ap (λ ps. form o word.WithNack (number NackBody (decimal b) ∷ ps) CloseNack) x.2)

    bound_events : (es : s.Events M) → EventsWithin es → Bounds bare_events (g.events (bounded literal)) (g.events (spelling literal)) es
    bound_events g.none h = (g.none, refl, refl)
    bound_events (g.more e es) h =
        let x = bound_event e h.0 Open in
        let y = bound_events es h.1 in
        (g.more x.0 y.0, ap₂ g.more x.1 y.1, ap₂ ◌++◌ x.2 y.2)

  bound_instr : (i : s.Instr M) → InstrWithin i → Bounds bare_instr (g.instr (bounded literal)) (g.instr (spelling literal)) i
  bound_instr (g.sync e) h =
      let x = bound_event e h Open in
      (g.sync x.0, ap g.sync x.1, ap (λ ps. form Open word.Sync ps CloseSync) x.2)
  bound_instr (g.spawn b) h = (g.spawn (small b (omega arith)), refl, refl)
  bound_instr g.emit h = (g.emit, refl, refl)
  bound_instr g.again h = (g.again, refl, refl)

  bound_port : (p : g.Port ℕ) → p.number ≤ last_port → Bounds bare_port (g.port (bounded literal)) (g.port (spelling literal)) p
  bound_port p h = (record { kind = p.kind; number = small p.number (omega arith) }, refl, refl)

  bound_body : (b : s.Body M) → BodyWithin b → Bounds bare_body (g.body (bounded literal)) (g.body (spelling literal)) b
  bound_body b h =
      let x = bound_each InstrWithin bare_instr (g.instr (bounded literal)) (g.instr (spelling literal)) bound_instr b.instrs h.1 in
      let n : g.Body Small Weight M = record { number = small b.number (omega (arith, h.0)); instrs = x.0 } in
      let e = x.1 in
      (n, (λ i. record { number = b.number; instrs = e i }), ap (λ ps. form Open word.Task (number NewBody (decimal b.number) ∷ ps) CloseTask) x.2)

  bound_script : (t : s.Script M) → Within t → Bounds bare_script (g.script (bounded literal)) (g.script (spelling literal)) t
  bound_script t w =
      let ps = bound_each (λ p. p.number ≤ last_port) bare_port (g.port (bounded literal)) (g.port (spelling literal)) bound_port t.ports w.ports in
      let b = bound_body t.first w.first in
      let bs = bound_each BodyWithin bare_body (g.body (bounded literal)) (g.body (spelling literal)) bound_body t.others w.others in
      let x : g.Script Small Weight M = record { ports = ps.0; first = b.0; others = bs.0 } in
      (x, (λ i. record { ports = ps.1 i; first = b.1 i; others = bs.1 i }), ap₂ ◌++◌ ps.2 (ap₂ ◌++◌ b.2 bs.2))

-- The parts of two scripts are the same where their tokens are.

same_parts : (ps qs : List Part) → part_lexemes ps ≡ part_lexemes qs → Uses (part_lexemes ps) (map (λ p. p.purpose) ps) → Uses (part_lexemes qs) (map (λ p. p.purpose) qs) → ps ≡ qs
same_parts ps qs e u v =
    let P : List Lexeme → Type 0 = λ ls. Uses ls (map (λ p. p.purpose) ps) in
    let same = uses_determined (part_lexemes qs) (map (λ p. p.purpose) ps) (map (λ p. p.purpose) qs) (subst P e u) v in
    sym (put_together ps) ∙ ap₂ with_uses same e ∙ put_together qs

pub one_script : {M : Type 0} (literal : M → List ℕ) → ((a b : M) → literal a ≡ literal b → a ≡ b) → ((a : M) → Plain (literal a)) → OneScript literal
one_script literal one plain text t u of_t of_u =
    let spell = bounded literal in
    let proper = bounded_proper literal plain in
    let x = bound_script literal t of_t.within in
    let y = bound_script literal u of_u.within in
    let tokens : part_lexemes (g.script spell x.0) ≡ part_lexemes (g.script spell y.0) =
    ap part_lexemes x.2 ∙ of_t.written ∙ sym (ap part_lexemes y.2 ∙ of_u.written) in
    let same = same_parts (g.script spell x.0) (g.script spell y.0) tokens (image_uses spell proper x.0) (image_uses spell proper y.0) in
    sym x.1 ∙ ap bare_script (written_once spell (bounded_injective literal one) x.0 y.0 same) ∙ y.1
