-- A script in whose tokens nothing is over its limit keeps its limits.
use Rattle.std.proofs.Common.{◌≡◌, ℕ, zero, suc, ◌+◌, ◌<◌, ◌≤◌, List, [], ◌∷◌, ◌++◌, length, take, ℤ, sym, refl, ap, ◌∙◌, subst, inr, arith}
use Rattle.std.specs.List.{AllByRecursion}
use Rattle.tokens.specs.Tokens.{closing, atom}
use Rattle.grammar.specs.declared.words.Keyword.{Keyword}
use Rattle.grammar.specs.declared.words.Keyword.TheVariants as word
use Rattle.grammar.specs.declared.words.Use.TheVariants.{Bracket, Test}
use Rattle.grammar.specs.declared.words.BracketUse.{BracketUse}
use Rattle.grammar.specs.declared.words.BracketUse.TheVariants.{Open, OpenSecond, Close, CloseTask, CloseSync, CloseGuard, CloseNack}
use Rattle.grammar.specs.declared.words.NumberUse.TheVariants.{NewBody, NackBody}
use Rattle.grammar.specs.Grammar as g
use Rattle.grammar.specs.Grammar.{Part, part}
use Rattle.passes.specs.Parts.{nth}
use Rattle.passes.specs.Limits.{leaf, nack, other_event, body, counted, Tally, nothing_yet, with_counted, with_use, tally, Full, FullFor}
use Rattle.rows.specs.Scripts.{Body, Instr, Event, Events, Action}
use Rattle.rows.specs.Rows.{bodies}
use Rattle.rules.specs.Limits.{most_leaves, most_nacks, most_instrs, leaves_written, leaves_written_each, nacks_written, nacks_written_each, InstrLimited, LimitsLaw}

-- no keyword of the parts, which come after `t`, is one too many; a bracket comes before each, and is not counted
abbrev Kept : Tally → List Part → Type 0
Kept t ps = (k : ℕ) → FullFor (tally t (take k ps)) (nth ps (suc k)).purpose → ⊥

kept_left : (t : Tally) (ps qs : List Part) → Kept t (ps ++ qs) → Kept t ps
kept_left t [] qs h k full = full
kept_left t (p ∷ []) qs h zero full = full
kept_left t (p ∷ (q ∷ ps)) qs h zero full = h zero full
kept_left t (p ∷ ps) qs h (suc k) full = kept_left (with_use t p.purpose) ps qs (λ j. h (suc j)) k full

kept_right : (t : Tally) (ps qs : List Part) → Kept t (ps ++ qs) → Kept (tally t ps) qs
kept_right t [] qs h = h
kept_right t (p ∷ ps) qs h = kept_right (with_use t p.purpose) ps qs (λ k. h (suc k))

tally_append : (t : Tally) (ps qs : List Part) → tally t (ps ++ qs) ≡ tally (tally t ps) qs
tally_append t [] qs = refl
tally_append t (p ∷ ps) qs = tally_append (with_use t p.purpose) ps qs

-- a form counts its keyword, then what is inside

module _ (o : BracketUse) (k : Keyword) (inside : List Part) (c : BracketUse) (t : Tally) where
  kept_inside : Kept t (g.form o k inside c) → Kept (with_counted t (counted k)) inside
  kept_inside h = kept_left (with_counted t (counted k)) inside (part (Bracket c) closing ∷ []) (λ j. h (suc (suc j)))

  tally_form : tally t (g.form o k inside c) ≡ tally (with_counted t (counted k)) inside
  tally_form = tally_append (with_counted t (counted k)) inside (part (Bracket c) closing ∷ [])

-- the leaves and with-nacks of a sync are within their limits
abbrev Few : Tally → Type 0
Few t = (t.leaves ≤ most_leaves) × (t.nacks ≤ most_nacks)

-- from `t` to `u` so many leaves and with-nacks were counted, none of them one too many, and no instruction
record Added (t u : Tally) (leaves nacks : ℕ) : Type 0 where
  pub leaves_after : u.leaves ≡ t.leaves + leaves
  pub nacks_after : u.nacks ≡ t.nacks + nacks
  pub instrs_after : u.instrs ≡ t.instrs
  pub few : Few t → Few u

none_added : (t : Tally) → Added t t 0 0
none_added t = record { leaves_after = omega arith; nacks_after = omega arith; instrs_after = refl; few = λ q. q }

leaf_added : (t : Tally) → (Full t leaf → ⊥) → Added t (with_counted t leaf) 1 0
leaf_added t h =
    let room : most_leaves ≤ t.leaves → ⊥ = λ full. h (inr full) in
    record { leaves_after = refl; nacks_after = omega arith; instrs_after = refl; few = λ q. (omega arith, q.1) }

module _ {t u : Tally} {l n : ℕ} where
  with_nack_added : (Full t nack → ⊥) → Added (with_counted t nack) u l n → Added t u l (suc n)
  with_nack_added h a =
      let room : most_nacks ≤ t.nacks → ⊥ = λ full. h (inr full) in
      record { leaves_after = a.leaves_after; nacks_after = omega (arith, a.nacks_after); instrs_after = a.instrs_after; few = λ q. a.few (q.0, omega arith) }

  other_added : Added (with_counted t other_event) u l n → Added t u l n
  other_added a = record { leaves_after = a.leaves_after; nacks_after = a.nacks_after; instrs_after = a.instrs_after; few = a.few }

  both_added : {v : Tally} {l' n' : ℕ} → Added t u l n → Added u v l' n' → Added t v (l + l') (n + n')
  both_added a b =
      record {
        leaves_after = omega (arith, a.leaves_after, b.leaves_after);
        nacks_after = omega (arith, a.nacks_after, b.nacks_after);
        instrs_after = b.instrs_after ∙ a.instrs_after;
        few = λ q. b.few (a.few q);
      }

-- the parts, which come after `t`, add so many where none is one too many
abbrev Adds : Tally → List Part → ℕ → ℕ → Type 0
Adds t ps l n = Kept t ps → Added t (tally t ps) l n

form_adds : (o : BracketUse) (k : Keyword) (inside : List Part) (c : BracketUse) (t : Tally) {l n : ℕ}
    → (Kept (with_counted t (counted k)) inside → Added t (tally (with_counted t (counted k)) inside) l n)
    → Adds t (g.form o k inside c) l n
form_adds o k inside c t {l} {n} a h = subst (λ u. Added t u l n) (sym (tally_form o k inside c t)) (a (kept_inside o k inside c t h))

both_add : (t : Tally) (ps qs : List Part) {l n l' n' : ℕ} → Adds t ps l n → Adds (tally t ps) qs l' n' → Adds t (ps ++ qs) (l + l') (n + n')
both_add t ps qs {l} {n} {l'} {n'} a b h =
    subst (λ u. Added t u (l + l') (n + n')) (sym (tally_append t ps qs)) (both_added (a (kept_left t ps qs h)) (b (kept_right t ps qs h)))

tally_action : {M : Type 0} (σ : g.Spelling ℕ ℤ M) (a : Action M) (t : Tally) → tally t (g.action σ a) ≡ t
tally_action σ (g.set m) t = refl
tally_action σ (g.add k) t = refl

action_last : {M : Type 0} (σ : g.Spelling ℕ ℤ M) (ps : List Part) (a : Action M) (t : Tally) {l n : ℕ} → Adds t ps l n → Adds t (ps ++ g.action σ a) l n
action_last σ ps a t {l} {n} f h =
    subst (λ u. Added t u l n) (sym (tally_append t ps (g.action σ a) ∙ tally_action σ a (tally t ps))) (f (kept_left t ps (g.action σ a) h))

-- an event adds the leaves and the with-nacks that are written in it

mutual
  event_adds : {M : Type 0} (σ : g.Spelling ℕ ℤ M) (o : BracketUse) (e : Event M) (t : Tally) → Adds t (g.event σ o e) (leaves_written e) (nacks_written e)
  event_adds σ o g.never t h = other_added (none_added _)
  event_adds σ o g.nack t h = leaf_added t (h 0)
  event_adds σ o (g.always m) t h = leaf_added t (h 0)
  event_adds σ o (g.send p) t h = leaf_added t (h 0)
  event_adds σ o (g.recv p) t h = leaf_added t (h 0)
  event_adds σ o (g.timeout d) t h = leaf_added t (h 0)
  event_adds σ o (g.choose es) t h = form_adds o word.Choose (g.events σ es) Close t (λ i. other_added (events_add σ es _ i)) h
  event_adds σ o (g.wrap e a) t h = form_adds o word.Wrap (g.event σ Open e ++ g.action σ a) Close t
      (λ i. other_added (action_last σ (g.event σ Open e) a _ (event_adds σ Open e _) i)) h
  event_adds σ o (g.guard s e f) t h = form_adds o word.Guard (part (Test s) (atom (g.test_word s)) ∷ (g.event σ Open e ++ g.event σ OpenSecond f)) CloseGuard t
      (λ i. other_added (both_add _ (g.event σ Open e) (g.event σ OpenSecond f) (event_adds σ Open e _) (event_adds σ OpenSecond f _) (λ k. i (suc k)))) h
  event_adds σ o (g.with_nack b e) t h = form_adds o word.WithNack (g.number NackBody (σ.number b) ∷ g.event σ Open e) CloseNack t
      (λ i. with_nack_added (h 0) (event_adds σ Open e _ (λ k. i (suc k)))) h

  events_add : {M : Type 0} (σ : g.Spelling ℕ ℤ M) (es : Events M) (t : Tally) → Adds t (g.events σ es) (leaves_written_each es) (nacks_written_each es)
  events_add σ g.none t h = none_added t
  events_add σ (g.more e es) t h = both_add t (g.event σ Open e) (g.events σ es) (event_adds σ Open e t) (events_add σ es _) h

-- there was room for an instruction, it counts as one, and is limited
instr_told : {M : Type 0} (σ : g.Spelling ℕ ℤ M) (i : Instr M) (t : Tally) → Kept t (g.instr σ i)
    → (t.instrs < most_instrs) × ((tally t (g.instr σ i)).instrs ≡ t.instrs + 1) × InstrLimited i
instr_told σ (g.sync e) t h =
    let a = event_adds σ Open e _ (kept_inside Open word.Sync (g.event σ Open e) CloseSync t h) in
    let few = a.few (omega arith, omega arith) in (
      omega (arith, h 0),
      ap (λ u. u.instrs) (tally_form Open word.Sync (g.event σ Open e) CloseSync t) ∙ a.instrs_after,
      (omega (arith, few.0, a.leaves_after), omega (arith, few.1, a.nacks_after)),
    )
instr_told σ (g.spawn b) t h = (omega (arith, h 0), refl, tt)
instr_told σ g.emit t h = (omega (arith, h 0), refl, tt)
instr_told σ g.again t h = (omega (arith, h 0), refl, tt)

-- the instructions of a body are counted from none on

instrs_limited : {M : Type 0} (σ : g.Spelling ℕ ℤ M) (is : List (Instr M)) (t : Tally) → t.instrs ≤ most_instrs → Kept t (g.each (g.instr σ) is)
    → (t.instrs + length is ≤ most_instrs) × AllByRecursion InstrLimited is
instrs_limited σ [] t few h = (omega arith, tt)
instrs_limited σ (i ∷ is) t few h =
    let told = instr_told σ i t (kept_left t (g.instr σ i) (g.each (g.instr σ) is) h) in
    let rest = instrs_limited σ is (tally t (g.instr σ i)) (omega (arith, told.0, told.1)) (kept_right t (g.instr σ i) (g.each (g.instr σ) is) h) in
    (omega (arith, told.1, rest.0), (told.2, rest.1))

bodies_limited : {M : Type 0} (σ : g.Spelling ℕ ℤ M) (bs : List (Body M)) (t : Tally) → Kept t (g.each (g.body σ) bs)
    → AllByRecursion (λ b. (length b.instrs ≤ most_instrs) × AllByRecursion InstrLimited b.instrs) bs
bodies_limited σ [] t h = tt
bodies_limited σ (b ∷ bs) t h =
    let inside = kept_inside Open word.Task (g.number NewBody (σ.number b.number) ∷ g.each (g.instr σ) b.instrs) CloseTask t (kept_left t (g.body σ b) (g.each (g.body σ) bs) h) in
    let told = instrs_limited σ b.instrs (with_counted t body) (omega arith) (λ k. inside (suc k)) in
    ((omega (arith, told.0), told.1), bodies_limited σ bs (tally t (g.body σ b)) (kept_right t (g.body σ b) (g.each (g.body σ) bs) h))

pub limits_law : (M : Type 0) → LimitsLaw M
limits_law M σ x h = bodies_limited σ (bodies x) (tally nothing_yet (g.each (g.port σ) x.ports))
    (kept_right nothing_yet (g.each (g.port σ) x.ports) (g.each (g.body σ) (bodies x))
    (λ k full. h k (subst (λ j. FullFor (tally nothing_yet (take k (g.script σ x))) (nth (g.script σ x) j).purpose) (omega arith) full)))
