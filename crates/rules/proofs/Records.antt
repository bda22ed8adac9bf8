-- What the records of a step are, and what lists of records show.
use Rattle.std.proofs.Common.{◌≡◌, ℕ, suc, List, [], ◌∷◌, ◌++◌, sym, refl, ap, ◌∙◌, append_assoc}
use mathlib.Core.List.{map-append}
use Rattle.std.specs.List.{AllByRecursion}
use Rattle.std.proofs.ByRecursion.{All-append}
use Rattle.trace.specs.declared.record.Event.{Event}
use Rattle.trace.specs.declared.record.Event.TheVariants as line
use Rattle.trace.specs.declared.record.Record.{Record}
use Rattle.rules.specs.declared.nack.Nack.{Nack}
use Rattle.rules.specs.declared.nack.Nack.TheVariants.{Pending, Fired, Void}
use Rattle.rules.specs.States.{Task}
use Rattle.rules.specs.Settling.{Settlement, pending_after, fire_if, fire_of, fires}
use Rattle.rules.specs.Steps.{nack_starts}
use Rattle.rules.specs.Runs.{numbered}
use Rattle.rules.specs.Laws.{happenings, each_of}

-- Those after a settlement are fire records, and those after a sync are start records.
module _ {M : Type 0} (P : Event M → Type 0) where
  module _ (h : (n y : ℕ) → P (line.Fire n y)) where
    all_fire_if : (n y : ℕ) (k : Nack) → AllByRecursion P (fire_if n y k)
    all_fire_if n y Fired = (h n y, tt)
    all_fire_if n y Void = tt
    all_fire_if n y (Pending z b) = tt

    all_fire_of : (σs : List Settlement) (n : ℕ) (k : Nack) → AllByRecursion P (fire_of σs n k)
    all_fire_of σs n Fired = tt
    all_fire_of σs n Void = tt
    all_fire_of σs n (Pending y b) = all_fire_if n y (pending_after σs y b)

    pub all_fires : (σs : List Settlement) (ts : List (Task M)) → AllByRecursion P (fires σs ts)
    all_fires σs [] = tt
    all_fires σs (t ∷ ts) = All-append P (fire_of σs t.number t.nack) (fires σs ts) (all_fire_of σs t.number t.nack) (all_fires σs ts)

  pub all_starts : ((n b t y : ℕ) → P (line.Start n b t y)) → (t y n : ℕ) (bs : List ℕ) → AllByRecursion P (nack_starts t y n bs)
  all_starts h t y n [] = tt
  all_starts h t y n (b ∷ bs) = (h n b t y, all_starts h t y (suc n) bs)

-- what each record shows, over lists of them

pub each_append : {M X : Type 0} (f : Event M → List X) (rs qs : List (Event M)) → each_of f (rs ++ qs) ≡ each_of f rs ++ each_of f qs
each_append f [] qs = refl
each_append f (r ∷ rs) qs = ap (λ xs. f r ++ xs) (each_append f rs qs) ∙ sym (append_assoc (f r) (each_of f rs) (each_of f qs))

pub each_none : {M X : Type 0} (f : Event M → List X) (rs : List (Event M)) → AllByRecursion (λ r. f r ≡ []) rs → each_of f rs ≡ []
each_none f [] h = refl
each_none f (r ∷ rs) h = λ i. h.0 i ++ each_none f rs h.1 i

pub fires_none : {M X : Type 0} (f : Event M → List X) → ((n y : ℕ) → f (line.Fire n y) ≡ [])
    → (σs : List Settlement) (ts : List (Task M)) → each_of f (fires σs ts) ≡ []
fires_none f h σs ts = each_none f (fires σs ts) (all_fires (λ r. f r ≡ []) h σs ts)

pub starts_none : {M X : Type 0} (f : Event M → List X) → ((n b t y : ℕ) → f (line.Start n b t y) ≡ [])
    → (t y n : ℕ) (bs : List ℕ) → each_of f (nack_starts t y n bs) ≡ []
starts_none f h t y n bs = each_none f (nack_starts t y n bs) (all_starts (λ r. f r ≡ []) h t y n bs)

-- a trace with the records of one more act

happenings_more : {M : Type 0} (tr : List (Record M)) (n k : ℕ) (rs : List (Event M)) → happenings (tr ++ numbered n k rs) ≡ happenings tr ++ rs
happenings_more {M} tr n k rs = map-append (λ (r : Record M). r.event) tr (numbered n k rs) ∙ ap (λ qs. happenings tr ++ qs) (those n rs)
  where
    those : (n : ℕ) (rs : List (Event M)) → happenings (numbered n k rs) ≡ rs
    those n [] = refl
    those n (r ∷ rs) = ap (λ qs. r ∷ qs) (those (suc n) rs)

pub each_more : {M X : Type 0} (f : Event M → List X) (tr : List (Record M)) (n k : ℕ) (rs : List (Event M))
    → each_of f (happenings (tr ++ numbered n k rs)) ≡ each_of f (happenings tr) ++ each_of f rs
each_more f tr n k rs = ap (each_of f) (happenings_more tr n k rs) ∙ each_append f (happenings tr) rs
