-- A nack fires exactly when its sync is settled outside its branch.
use Rattle.std.proofs.Common.{◌≡◌, ℕ, true, ◌↔◌, List, refl, subst, arith}
use Rattle.std.proofs.lemmas.Bool.{both_ways}
use Rattle.trace.specs.declared.record.Record.{Record}
use Rattle.rules.specs.declared.nack.Nack.{Nack}
use Rattle.rules.specs.declared.nack.Nack.TheVariants.{Pending, Fired, Void}
use Rattle.rules.specs.States.{Setting, Leaf, State}
use Rattle.rules.specs.Settling.{in_branch}
use Rattle.rules.specs.Runs.{Run, begins, goes_on}
use Rattle.rules.specs.Laws.{LawfulKinds}
use Rattle.rules.specs.Nacks.{WasSettled, WasStarted, NackLaw, VoidLaw}
use Rattle.rules.proofs.Stories.{Settlings, Startings, AtOneLeaf, StartedOnce, Inside, Outside, Unsettled, Told, Story, story_begins, story_more}
use Rattle.rules.proofs.Effects.{effect_act}

-- every run has its story
pub story : {M : Type 0} (limit : ℕ) (w : Setting M) → LawfulKinds limit w → (tr : List (Record M)) (s : State M) (r : Run w tr s) → Story r
story limit w c tr s (begins e f) = story_begins w tr s e f
story limit w c tr s (goes_on {tr = tr₀} {s = s₀} rs r a e) = story_more limit w c tr₀ s₀ s r rs a (effect_act limit w c s₀ rs s a) (story limit w c tr₀ s₀ r) tr e

-- what holds on both sides, and what holds on neither

both : {A B : Type 0} → A → B → A ↔ B
both a b = ((λ _. b), (λ _. a))

neither : {A B : Type 0} → (A → ⊥) → (B → ⊥) → A ↔ B
neither f g = ((λ a. absurd (f a)), (λ b. absurd (g b)))

-- no nack has two states, and no sync is settled both inside and outside

not_in_and_out : {M : Type 0} (Se : Settlings M) → AtOneLeaf Se → (y b : ℕ) → Inside Se y b → Outside Se y b → ⊥
not_in_and_out {M} Se u y b p q = both_ways (in_branch b q.0.above) q.2 (subst (λ (l : Leaf M). in_branch b l.above ≡ true) (u y p.0 q.0 p.1 q.1) p.2)

pub not_fired_and_void : (k : Nack) → k ≡ Fired → k ≡ Void → ⊥
not_fired_and_void k e f = let z : ◌≡◌ {A = ℕ} 0 1 = cc in omega arith

pub not_fired_and_pending : (k : Nack) (y b : ℕ) → k ≡ Fired → k ≡ Pending y b → ⊥
not_fired_and_pending k y b e f = let z : ◌≡◌ {A = ℕ} 0 1 = cc in omega arith

not_void_and_pending : (k : Nack) (y b : ℕ) → k ≡ Void → k ≡ Pending y b → ⊥
not_void_and_pending k y b e f = let z : ◌≡◌ {A = ℕ} 0 1 = cc in omega arith

-- what a nack says, where a with-nack started its task, and where none did

module _ {M : Type 0} (Se : Settlings M) (St : Startings) (n : ℕ) (once : StartedOnce St n) (u : AtOneLeaf Se) (y b : ℕ) (o : St n y b) where
  says : (k : Nack) → Told Se St n k → ((k ≡ Fired) ↔ Outside Se y b) × ((k ≡ Void) ↔ Inside Se y b) × ((k ≡ Pending y b) ↔ Unsettled Se y)
  says Fired h = let e = once h.0 h.1 y b h.2 o in
      let q : Outside Se y b = subst (λ c. Outside Se y c) e.1 (subst (λ x. Outside Se x h.1) e.0 h.3) in
      (both refl q, neither (not_fired_and_void Fired refl) (λ p. not_in_and_out Se u y b p q), neither (not_fired_and_pending Fired y b refl) (λ f. f q.0 q.1))
  says Void h = let q = h y b o in
      (neither (λ d. not_fired_and_void Void d refl) (not_in_and_out Se u y b q), both refl q, neither (not_void_and_pending Void y b refl) (λ f. f q.0 q.1))
  says (Pending x c) h = let e = once x c y b h.0 o in
      let q : Unsettled Se y = subst (λ x. Unsettled Se x) e.0 h.1 in
      (neither (λ d. not_fired_and_pending (Pending x c) x c d refl) (λ p. q p.0 p.1), neither (λ d. not_void_and_pending (Pending x c) x c d refl) (λ p. q p.0 p.1), both (λ i. Pending (e.0 i) (e.1 i)) q)

says_void : {M : Type 0} (Se : Settlings M) (St : Startings) (n : ℕ) (k : Nack) → Told Se St n k → ((y b : ℕ) → St n y b → ⊥) → k ≡ Void
says_void Se St n Fired h f = absurd (f h.0 h.1 h.2)
says_void Se St n Void h f = refl
says_void Se St n (Pending y b) h f = absurd (f y b h.0)

pub nack_law : (M : Type 0) → NackLaw M
nack_law M limit w c tr s r t m y b o = let h = story limit w c tr s r in
    let q = says (WasSettled r) (WasStarted r) t.number (h.started_once t.number) h.settled_once y b o t.nack (h.nacks t m) in
    record { fired = q.0; void = q.1; pending = q.2 }

pub void_law : (M : Type 0) → VoidLaw M
void_law M limit w c tr s r t m f = says_void (WasSettled r) (WasStarted r) t.number t.nack ((story limit w c tr s r).nacks t m) f
