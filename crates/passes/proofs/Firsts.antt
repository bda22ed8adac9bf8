-- The first place at which something holds, by a walk from the front.
use Rattle.std.proofs.Common.{◌≡◌, ℕ, ◌+◌, ◌<◌, ◌≤◌, List, length, get_or, Some, None, MatchOption, Option, sym, subst, inl, inr, arith, below_more}
use Rattle.std.specs.List.{AllWithin, HoldsAt}
use Rattle.std.proofs.lemmas.List.{get_or-map, get_or_past, length-map}
use Rattle.std.proofs.lemmas.Bool.{cases_lt}
use Rattle.tokens.specs.declared.token.Token.TheVariants as token
use Rattle.tokens.specs.Places.{First, Nowhere, Smallest}
use Rattle.tokens.specs.Tokens.{closing}
use Rattle.grammar.specs.declared.words.Use.TheVariants.{Bracket}
use Rattle.grammar.specs.declared.words.BracketUse.TheVariants.{Close}
use Rattle.grammar.specs.declared.part.Part as code
use Rattle.grammar.specs.Grammar.{Part, part}
use Rattle.grammar.specs.Parts.{told, parts_of}
use Rattle.passes.specs.Parts.{nth}

-- it holds at none of the first n places
abbrev pub Passed : (ℕ → Type 0) → ℕ → Type 0
Passed P n = (k : ℕ) → k < n → P k → ⊥

pub passed_more : (P : ℕ → Type 0) (n : ℕ) → Passed P n → (P n → ⊥) → Passed P (n + 1)
passed_more P n = below_more (λ k. P k → ⊥) n

pub first_here : (P : ℕ → Type 0) (n : ℕ) → Passed P n → P n → First P n
first_here P n h p = (p, λ j q. elim (cases_lt j n) [ inl lt ↦ absurd (h j lt q) | inr le ↦ le ])

pub passed_all : (P : ℕ → Type 0) (n : ℕ) → Passed P n → ((k : ℕ) → n ≤ k → P k → ⊥) → Nowhere P
passed_all P n h past k p = elim (cases_lt k n) [ inl lt ↦ h k lt p | inr le ↦ past k le p ]

-- past the end
abbrev pub no_part : Part
no_part = part (Bracket Close) closing

pub nth_past : (ps : List Part) (k : ℕ) → length ps ≤ k → nth ps k ≡ no_part
nth_past ps k h = get_or_past ps k no_part h

pub nth_told : (qs : List code.Part) (k : ℕ) (d : code.Part) → k < length qs → nth (parts_of qs) k ≡ told (get_or qs k d)
nth_told qs k d lt = get_or-map told qs k d no_part lt

-- some part, where a lemma wants one
abbrev some_part : code.Part
some_part = record { purpose = Bracket Close; token = token.Close 0 }

-- A property of parts that none has past the end.
module _ (Q : Part → Type 0) (lacks : Q no_part → ⊥) (qs : List code.Part) where
  abbrev pub Held : ℕ → Type 0
  Held k = Q (nth (parts_of qs) k)

  pub part_passed : (i : ℕ) (d : code.Part) → i < length qs → Passed Held i → (Q (told (get_or qs i d)) → ⊥) → Passed Held (i + 1)
  part_passed i d lt h fails = passed_more Held i h (λ q. fails (subst Q (nth_told qs i d lt) q))

  pub part_first : (i : ℕ) (d : code.Part) → i < length qs → Passed Held i → Q (told (get_or qs i d)) → First Held i
  part_first i d lt h q = first_here Held i h (subst Q (sym (nth_told qs i d lt)) q)

  pub parts_passed : (n : ℕ) → length qs ≤ n → Passed Held n → Nowhere Held
  parts_passed n le h = passed_all Held n h (λ k past q. lacks (subst Q (nth_past (parts_of qs) k (omega (arith, length-map qs told))) q))

  -- what `position` finds
  within_passed : (n : ℕ) → n ≤ length qs → AllWithin (λ p. Q (told p) → ⊥) qs 0 n → Passed Held n
  within_passed n le h k lt q = h k some_part (omega arith) lt (subst Q (nth_told qs k some_part (omega arith)) q)

  pub position_first : (r : Option ℕ) → MatchOption r (AllWithin (λ p. Q (told p) → ⊥) qs 0 (length qs)) (λ i. (i < length qs) × HoldsAt (λ p. Q (told p)) qs i × AllWithin (λ p. Q (told p) → ⊥) qs 0 i) → Smallest Held r
  position_first None h = parts_passed (length qs) (omega arith) (within_passed (length qs) (omega arith) h)
  position_first (Some i) h = part_first i some_part h.0 (within_passed i (omega arith) h.2) (h.1 some_part)
