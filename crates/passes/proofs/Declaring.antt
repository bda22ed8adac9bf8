-- Which names the tokens so far declare, and which token is misnamed.
use Rattle.std.proofs.Common.{◌≡◌, ℕ, ◌+◌, ◌<◌, ◌≤◌, Bool, true, false, ◌⊎◌, List, length, get_or, replicate, Some, None, codes, IsTrue, ◌↔◌, Option, sym, refl, ap, ◌∙◌, subst, inl, inr, arith}
use Rattle.std.proofs.lemmas.Fmt.{decimal_digit, decimal_injective}
use Rattle.std.proofs.lemmas.List.{get_or-replicate, get_or_past, length-map, length-replicate}
use Rattle.std.proofs.lemmas.Bool.{both_ways, not-true, not_from_false, cases_lt, cases_eq, cases_Bool}
use Rattle.tokens.specs.Places.{First, Nowhere}
use Rattle.grammar.specs.declared.part.Part as parts
use Rattle.grammar.specs.Parts.{told, parts_of, bytes}
use Rattle.grammar.specs.Grammar.{Part}
use Rattle.passes.specs.declared.names.Declared.{Declared}
use Rattle.passes.specs.declared.names.Name as code
use Rattle.passes.specs.declared.names.Name.TheVariants.{Port, Body}
use Rattle.passes.specs.Parts.{nth}
use Rattle.passes.specs.Ranges.{AllRanged}
use Rattle.passes.specs.Names.{Name, body, declares, names, by_number, declared_at, named_at, DeclaredAgain, NamesNothing, Misnamed}
use Rattle.passes.specs.Declarations.{spelled, Small, holds, Added, Taken, Declaring, Missed, Lacking, Knows, KnowsAll}
use Rattle.passes.proofs.Firsts.{Passed, first_here, passed_all, nth_past, nth_told}

pub none_held : (n k : ℕ) → get_or (replicate n false) k false ≡ false
none_held n k = elim (cases_lt k n) [
  | inl h ↦ get_or-replicate n k false false h
  | inr h ↦ get_or_past (replicate n false) k false (omega (arith, length-replicate n false))
]

spelled_0 : body (codes "0") ≡ spelled (Body 0)
spelled_0 = ap body (sym (decimal_digit 0 (omega arith)))

-- a spelling says what it spells
spelled_once : (x y : code.Name) → Small x → Small y → spelled x ≡ spelled y → x ≡ y
spelled_once (Port m) (Port n) h k e = ap Port (decimal_injective m n (omega arith) (omega arith) (cc))
spelled_once (Body m) (Body n) h k e = ap Body (decimal_injective m n (omega arith) (omega arith) (cc))
spelled_once (Port m) (Body n) h k e = cc
spelled_once (Body m) (Port n) h k e = cc

cases_name : (x y : code.Name) → (y ≡ x) ⊎ (y ≡ x → ⊥)
cases_name (Port m) (Port n) = elim (cases_eq n m) [ inl e ↦ inl (ap Port e) | inr h ↦ inr (λ e. h (cc)) ]
cases_name (Body m) (Body n) = elim (cases_eq n m) [ inl e ↦ inl (ap Body e) | inr h ↦ inr (λ e. h (cc)) ]
cases_name (Port m) (Body n) = inr (λ e. cc)
cases_name (Body m) (Port n) = inr (λ e. cc)

same_some : (o : Option Name) (m n : Name) → o ≡ Some m → o ≡ Some n → m ≡ n
same_some o m n p q = cc

some_none : (o : Option Name) (m : Name) → o ≡ Some m → o ≡ None → ⊥
some_none o m p q = cc

module _ (ps : List Part) where
  last_or_before : (n j : ℕ) → j < n + 1 → (j < n) ⊎ (j ≡ n)
  last_or_before n j h = elim (cases_lt j n) [ inl lt ↦ inl lt | inr le ↦ inr (omega arith) ]

  knows_same : (n : ℕ) (d : Declared) → Knows ps n d → declared_at ps n ≡ None → Knows ps (n + 1) d
  knows_same n d h e x small = (
    (λ t. let w = (h x small).0 t in (w.0, omega (arith, w.1), w.2)),
    λ (j, lt, f). elim (last_or_before n j lt) [
      | inl b ↦ (h x small).1 (j, b, f)
      | inr q ↦ absurd (some_none (declared_at ps n) (spelled x) (sym (ap (declared_at ps) q) ∙ f) e)
    ],
  )

  knows_added : (n : ℕ) (d later : Declared) (y : code.Name) → Knows ps n d → Small y → declared_at ps n ≡ Some (spelled y) → Added d y later → Knows ps (n + 1) later
  knows_added n d later y h fits e a x small = elim (cases_name y x) [
    | inl q ↦ ((λ t. (n, omega arith, e ∙ ap (λ z. Some (spelled z)) (sym q))), λ w. ap (holds later) q ∙ a.here)
    | inr apart ↦ (
      (λ t. let w = (h x small).0 (sym (a.others x apart) ∙ t) in (w.0, omega (arith, w.1), w.2)),
      λ (j, lt, f). elim (last_or_before n j lt) [
        | inl b ↦ a.others x apart ∙ (h x small).1 (j, b, f)
        | inr q ↦ absurd (apart (spelled_once x y small fits (same_some (declared_at ps n) (spelled x) (spelled y) (sym (ap (declared_at ps) q) ∙ f) e)))
      ],
    )
  ]

  -- what a token declares is taken in, and said to be there or not
  taken_knows : (n : ℕ) (d later : Declared) (r : Bool) (o : Option Name) → declared_at ps n ≡ o → Taken o d later r → Knows ps n d → Knows ps (n + 1) later
  taken_knows n d later r (Some m) e (x, small, same, added, there) h = knows_added n d later x h small (e ∙ ap Some same) added
  taken_knows n d later r None e (same, there) h = subst (Knows ps (n + 1)) (sym same) (knows_same n d h e)

  taken_again : (n : ℕ) (d later : Declared) (r : Bool) (o : Option Name) → declared_at ps n ≡ o → Taken o d later r → Knows ps n d → IsTrue r ↔ DeclaredAgain ps n
  taken_again n d later r (Some m) e (x, small, same, added, there) h = (
    (λ t. (spelled x, e ∙ ap Some same, (h x small).0 (sym there ∙ t))),
    λ (m', e', (j, lt, f)). there ∙ (h x small).1 (j, lt, f ∙ ap Some (same_some (declared_at ps n) m' (spelled x) e' (e ∙ ap Some same))),
  )
  taken_again n d later r None e (same, there) h = (
    (λ t. absurd (both_ways r there t)),
    λ (m', e', _). absurd (some_none (declared_at ps n) m' e' e),
  )

  missed_nothing : (n : ℕ) (d : Declared) (r : Bool) (o : Option Name) → named_at ps n ≡ o → Missed o d r → KnowsAll ps d → IsTrue r ↔ NamesNothing ps n
  missed_nothing n d r (Some m) e (x, small, same, there) h = (
    (λ t. (spelled x, e ∙ ap Some same, λ j f. both_ways (holds d x) (not-true (holds d x) (sym there ∙ t)) ((h x small).1 (j, f)))),
    λ (m', e', none). elim (cases_Bool (holds d x)) [
      | inl t ↦ let w = (h x small).0 t in absurd (none w.0 (w.1 ∙ ap Some (sym (same_some (named_at ps n) m' (spelled x) e' (e ∙ ap Some same)))))
      | inr f ↦ there ∙ not_from_false (holds d x) f
    ],
  )
  missed_nothing n d r None e there h = (
    (λ t. absurd (both_ways r there t)),
    λ (m', e', _). absurd (some_none (named_at ps n) m' e' e),
  )

  -- past the end nothing is declared or named
  none_declared : (k : ℕ) → length ps ≤ k → declared_at ps k ≡ None
  none_declared k h = ap (λ p. by_number declares p.purpose (bytes p)) (nth_past ps k h)

  none_named : (k : ℕ) → length ps ≤ k → named_at ps k ≡ None
  none_named k h = ap (λ p. by_number names p.purpose (bytes p)) (nth_past ps k h)

  -- One token, in a script whose numbers are in range.
  module _ (fair : AllRanged ps) (n : ℕ) where
    taken_at : (d later : Declared) (r : Bool) → Declaring (nth ps n) d later r → Taken (declared_at ps n) d later r
    taken_at d later r (inl out) = absurd (fair n out)
    taken_at d later r (inr t) = t

    missed_at : (d : Declared) (r : Bool) → Lacking (nth ps n) d r → Missed (named_at ps n) d r
    missed_at d r (inl out) = absurd (fair n out)
    missed_at d r (inr t) = t

-- One turn: what it declares, and then what it names.
module _ (qs : List parts.Part) (i : ℕ) (q : parts.Part) (lt : i < length qs) (fair : AllRanged (parts_of qs)) where
  at_turn : nth (parts_of qs) i ≡ told (get_or qs i q)
  at_turn = nth_told qs i q lt

  module _ (d later : Declared) (r : Bool) (declaring : Declaring (told (get_or qs i q)) d later r) (known : Knows (parts_of qs) i d) where
    taken : Taken (declared_at (parts_of qs) i) d later r
    taken = taken_at (parts_of qs) fair i d later r (subst (λ p. Declaring p d later r) (sym at_turn) declaring)

    pub knows_next : Knows (parts_of qs) (i + 1) later
    knows_next = taken_knows (parts_of qs) i d later r _ refl taken known

    pub declared_again : IsTrue r ↔ DeclaredAgain (parts_of qs) i
    declared_again = taken_again (parts_of qs) i d later r _ refl taken known

  pub names_nothing : (all : Declared) (r : Bool) → Lacking (told (get_or qs i q)) all r → KnowsAll (parts_of qs) all → IsTrue r ↔ NamesNothing (parts_of qs) i
  names_nothing all r lacking known = missed_nothing (parts_of qs) i all r _ refl (missed_at (parts_of qs) fair i all r (subst (λ p. Lacking p all r) (sym at_turn) lacking)) known

pub named_well : (qs : List parts.Part) (i : ℕ) → i < length qs → (a b : Bool) → IsTrue a ↔ DeclaredAgain (parts_of qs) i → IsTrue b ↔ NamesNothing (parts_of qs) i → a ≡ false → b ≡ false → Misnamed (parts_of qs) i → ⊥
named_well qs i lt a b again nothing p q (inl h) = both_ways a p (again.1 h)
named_well qs i lt a b again nothing p q (inr (inl h)) = both_ways b q (nothing.1 h)
named_well qs i lt a b again nothing p q (inr (inr h)) = omega (arith, h.0, length-map qs told)

-- body 0, at the end
pub body_0_missing : (qs : List parts.Part) (n : ℕ) (d : Declared) (r : Bool) → length qs ≤ n → Passed (Misnamed (parts_of qs)) n → KnowsAll (parts_of qs) d → r ≡ holds d (Body 0) → r ≡ false → First (Misnamed (parts_of qs)) (length qs)
body_0_missing qs n d r past h knows e f =
    first_here (Misnamed (parts_of qs)) (length qs) (λ k lt. h k (omega arith))
    (inr (inr (sym (length-map qs told), λ j g. both_ways r f (e ∙ (knows (Body 0) (omega arith)).1 (j, g ∙ ap Some spelled_0)))))

pub all_named_well : (qs : List parts.Part) (n : ℕ) (d : Declared) (r : Bool) → length qs ≤ n → Passed (Misnamed (parts_of qs)) n → KnowsAll (parts_of qs) d → r ≡ holds d (Body 0) → r ≡ true → Nowhere (Misnamed (parts_of qs))
all_named_well qs n d r past h knows e t =
    let ps = parts_of qs in
    let over : (k : ℕ) → n ≤ k → length ps ≤ k = λ k le. omega (arith, length-map qs told) in
    passed_all (Misnamed ps) n h (λ k le m. elim m [
      | inl w ↦ some_none (declared_at ps k) w.0 w.1 (none_declared ps k (over k le))
      | inr (inl w) ↦ some_none (named_at ps k) w.0 w.1 (none_named ps k (over k le))
      | inr (inr w) ↦ let v = (knows (Body 0) (omega arith)).0 (sym e ∙ t) in w.1 v.0 (v.1 ∙ ap Some (sym spelled_0))
    ])
