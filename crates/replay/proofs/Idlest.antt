-- Longest idle names the idlest task, at a place inside the list.
use Rattle.std.proofs.Common.{◌≡◌, ℕ, suc, ◌+◌, ◌<◌, ◌≤◌, true, false, ◌⊎◌, List, [], ◌∷◌, Some, refl, ap, ◌∙◌, inl, inr, arith}
use mathlib.Core.List.Memᴰ
use mathlib.Core.List.{Memᴰ}
use Rattle.std.specs.List.{slice_get}
use Rattle.std.proofs.lemmas.Bool.{cases_lt, cond_both}
use Rattle.replay.specs.declared.candidate.Candidate.{Candidate}
use Rattle.replay.specs.Policies.{idler, idlest_after, idlest}
use Rattle.replay.specs.Laws.{LongestIdleLaw}
use Rattle.rules.proofs.Places.{there_inside}

-- the first is at least as idle as the second: its stamp is smaller, or it is the same and its number is no larger
abbrev AsIdle : Candidate → Candidate → Type 0
AsIdle c d = (c.stamp ≤ d.stamp) × (c.stamp ≡ d.stamp → c.task ≤ d.task)

idler_as_idle : (c d : Candidate) → idler c d ≡ true → AsIdle c d
idler_as_idle c d e = grind arith

not_idler : (c d : Candidate) → idler c d ≡ false → AsIdle d c
not_idler c d e = grind arith

as_idle_trans : (b c d : Candidate) → AsIdle b c → AsIdle c d → AsIdle b d
as_idle_trans b c d p q = omega arith

-- at the place of the list stands one as idle as each of those given
record Finds (cs ds : List Candidate) (place : ℕ) : Type 0 where
  pub it : Candidate
  pub there : slice_get cs place ≡ Some it
  pub as_idle : (d : Candidate) → Memᴰ d ds → AsIdle it d

module _ (cs : List Candidate) where
  finds_idlest : (i : ℕ) (c : Candidate) (j : ℕ) (ds : List Candidate) → slice_get cs i ≡ Some c → ((k : ℕ) → slice_get cs (j + k) ≡ slice_get ds k)
      → Finds cs (c ∷ ds) (idlest_after i c j ds)
  finds_idlest i c j [] here after = record { it = c; there = here; as_idle = λ d m. let e = Memᴰ.eq_of_singleton m in rw e (omega arith) }
  finds_idlest i c j (d ∷ ds) here after =
      cond_both (idler d c) _ _ (Finds cs (c ∷ (d ∷ ds)))
      (λ e. with_both d (finds_idlest j d (suc j) ds (ap (slice_get cs) first ∙ after 0) next) (idler_as_idle d c e) (omega arith))
      (λ e. with_both c (finds_idlest i c (suc j) ds here next) (omega arith) (not_idler d c e))
    where
      first : j ≡ j + 0
      first = omega arith

      next : (k : ℕ) → slice_get cs (suc j + k) ≡ slice_get ds k
      next k = let e : suc j + k ≡ j + suc k = omega arith in ap (slice_get cs) e ∙ after (suc k)

      with_both : (b : Candidate) {place : ℕ} → Finds cs (b ∷ ds) place → AsIdle b c → AsIdle b d → Finds cs (c ∷ (d ∷ ds)) place
      with_both b f p q = record { it = f.it; there = f.there; as_idle = among }
        where
          least : AsIdle f.it b
          least = f.as_idle b (Memᴰ.head refl)

          among : (x : Candidate) → Memᴰ x (c ∷ (d ∷ ds)) → AsIdle f.it x
          among x (Memᴰ.head e) = rw e (as_idle_trans f.it b c least p)
          among x (Memᴰ.tail (Memᴰ.head e)) = rw e (as_idle_trans f.it b d least q)
          among x (Memᴰ.tail (Memᴰ.tail m)) = f.as_idle x (Memᴰ.tail m)

idlest_found : (c : Candidate) (cs : List Candidate) → Finds (c ∷ cs) (c ∷ cs) (idlest (c ∷ cs))
idlest_found c cs = finds_idlest (c ∷ cs) 0 c 1 cs refl (λ k. let e : 1 + k ≡ suc k = omega arith in ap (slice_get (c ∷ cs)) e)

idlest_named : (cs : List Candidate) (c d : Candidate) → slice_get cs (idlest cs) ≡ Some c → Memᴰ d cs → (c.stamp < d.stamp) ⊎ ((c.stamp ≡ d.stamp) × (c.task ≤ d.task))
idlest_named [] c d e m = absurd (Memᴰ.not-nil m)
idlest_named (b ∷ bs) c d e m = let f = idlest_found b bs in let same : f.it ≡ c = cc f.there in go (cases_lt c.stamp d.stamp) (rw same at (f.as_idle d m))
  where
    go : (c.stamp < d.stamp) ⊎ (d.stamp ≤ c.stamp) → AsIdle c d → (c.stamp < d.stamp) ⊎ ((c.stamp ≡ d.stamp) × (c.task ≤ d.task))
    go (inl h) p = inl h
    go (inr h) p = inr (omega arith)

pub longest_idle_law : (P : Type 0) → LongestIdleLaw P
longest_idle_law P = record {
  inside = record { task = λ p c cs. let f = idlest_found c cs in there_inside (c ∷ cs) _ f.it f.there; leaf = λ p i is. omega arith };
  first_leaf = λ p is. refl;
  idlest_is_named = idlest_named;
}
