-- What ports hold: each act of a run leaves a port alone, gives it one message or takes one.
use Rattle.std.proofs.Common.{◌≡◌, ℕ, ◌<◌, ◌≤◌, Bool, true, false, cond, eqb, ◌≢◌, ◌⊎◌, List, [], ◌∷◌, ◌++◌, length, Some, None, Option, sym, refl, ap, ◌∙◌, subst, inl, inr, arith}
use Rattle.std.specs.List.{AllByRecursion}
use Rattle.std.proofs.lemmas.Bool.{eqb-true, eqb-false, eq-eqb, ne_eqb, cond-true, cond-false, cond_both, true≢false}
use Rattle.std.proofs.lemmas.List.{append-nil, append_assoc, length_push}
use Rattle.std.proofs.ByRecursion.{All-weaker, All-push}
use Rattle.grammar.specs.declared.words.PortKind.{PortKind}
use Rattle.grammar.specs.declared.words.PortKind.TheVariants.{Channel, Mailbox, Ivar, Mvar}
use Rattle.rows.specs.Rows.{port_kind}
use Rattle.trace.specs.declared.record.Event.{Event}
use Rattle.rules.specs.declared.kind.BaseKind.{BaseKind}
use Rattle.rules.specs.declared.kind.BaseKind.TheVariants.{Port, Timeout}
use Rattle.rules.specs.declared.offer.Side.TheVariants.{Give, Take}
use Rattle.rules.specs.declared.offer.Offer.{Offer}
use Rattle.rules.specs.declared.offer.Reply.{Reply}
use Rattle.rules.specs.declared.offer.Reply.TheVariants.{Closed, Alone, With}
use Rattle.rules.specs.Kinds.{Kind, Meaning, polled, enrolled, enrolled_each, withdrawn, committed, held_after, handed, oldest, younger}
use Rattle.rules.specs.States.{Setting, Base, always, send, recv, due, nack, State, Task}
use Rattle.rules.specs.Able.{placed, at_port, poll_at, reply, rank, is_kind, offers_in}
use Rattle.rules.specs.Settling.{or_blank, result, means_with, commit_at, Settlement, withdrawn_each}
use Rattle.rules.specs.Steps.{Move, Step, ends, emits, returns, spawns, syncs, settles_one, settles_pair}
use Rattle.rules.specs.Runs.{posting, post_reply, with_post, Act, steps, posts, clocks, begins, goes_on}
use Rattle.rules.specs.Laws.{LawfulKinds}
use Rattle.rules.specs.Holdings.{only_at, given_by, taken_by, step_gives, step_takes, act_gives, act_takes, given, taken, PortTold, HeldLaw, OwnPortsLaw}
use Rattle.rules.proofs.Sound.{same_kind}

abbrev held_in : {M : Type 0} → BaseKind → ℕ → State M → List M
held_in c p s = (s.means c).held p

-- enrolments and withdrawals leave what is held

enrolled_held : {M : Type 0} (os : List Offer) (μ : Meaning M) → (enrolled_each os μ).held ≡ μ.held
enrolled_held [] μ = refl
enrolled_held (o ∷ os) μ = enrolled_held os (enrolled o μ)

withdrawn_held : {M : Type 0} (σs : List Settlement) (μ : Meaning M) → (withdrawn_each σs μ).held ≡ μ.held
withdrawn_held [] μ = refl
withdrawn_held (σ ∷ σs) μ = withdrawn_held σs (withdrawn σ.sync μ)

-- the port `p` of the kind `c` is not the port `q` of the kind `d`, and holds what it held; or it is, and holds `zs`
abbrev ElsewhereOrThere : {M : Type 0} → BaseKind → ℕ → BaseKind → ℕ → List M → List M → List M → Type 0
ElsewhereOrThere d q c p xs zs ys = ((c ≡ d → p ≢ q) × (ys ≡ xs)) ⊎ ((c ≡ d) × (p ≡ q) × (ys ≡ zs))

-- a commit changes, by `g`, what the port `q` of the kind `d` holds, and nothing else
commit_cases : {M : Type 0} (d c : BaseKind) (f : Meaning M → Meaning M) (μ : BaseKind → Meaning M) (q p : ℕ) (g : List M → List M)
    → (f (μ d)).held p ≡ cond (eqb p q) (g ((μ d).held p)) ((μ d).held p)
    → ElsewhereOrThere d q c p ((μ c).held p) (g ((μ d).held p)) ((means_with d f μ c).held p)
commit_cases {M} d c f μ q p g e = go (is_kind d c) refl
  where
    there : d ≡ c → (b : Bool) → eqb p q ≡ b → (f (μ c)).held p ≡ cond b (g ((μ d).held p)) ((μ c).held p) → ElsewhereOrThere d q c p ((μ c).held p) (g ((μ d).held p)) ((f (μ c)).held p)
    there k true a h = inr (sym k, eqb-true p q a, h)
    there k false a h = inl (λ _. eqb-false p q a, h)

    go : (b : Bool) → is_kind d c ≡ b → ElsewhereOrThere d q c p ((μ c).held p) (g ((μ d).held p)) ((cond b (f (μ c)) (μ c)).held p)
    go true k = let a = same_kind d c k in there a (eqb p q) refl (subst (λ x. (f (μ x)).held p ≡ cond (eqb p q) (g ((μ d).held p)) ((μ x).held p)) a e)
    go false k = inl (λ a. absurd (true≢false (sym (eq-eqb (rank d) (rank c) (ap rank (sym a))) ∙ k)), refl)

-- what an act does at a port of the kind `K` that held `xs` and then holds `ys`: `gs` is given and `ts` taken
data Change {M : Type 0} (w : Setting M) (limit : ℕ) (K : Kind) (xs gs ts ys : List M) : Type 0 where
  nothing : gs ≡ [] → ts ≡ [] → ys ≡ xs → Change w limit K xs gs ts ys
  a_give : (m : M) → (length xs < limit) × (K.holds ≡ true) → gs ≡ m ∷ [] → ts ≡ [] → ys ≡ xs ++ (m ∷ []) → Change w limit K xs gs ts ys
  a_take : (0 < length xs) ⊎ (K.holds ≡ false) → gs ≡ [] → ts ≡ or_blank w (oldest xs) ∷ [] → ys ≡ cond K.keeps xs (younger xs) → Change w limit K xs gs ts ys

only_here : {M : Type 0} (p q : ℕ) (m : M) → p ≡ q → only_at p q m ≡ m ∷ []
only_here p q m e = cond-true (eqb p q) (m ∷ []) [] (eq-eqb p q e)

only_elsewhere : {M : Type 0} (p q : ℕ) (m : M) → p ≢ q → only_at p q m ≡ []
only_elsewhere p q m d = cond-false (eqb p q) (m ∷ []) [] (ne_eqb p q d)

no_port : (k : PortKind) → is_kind Timeout (Port k) ≡ false
no_port Channel = refl
no_port Mailbox = refl
no_port Ivar = refl
no_port Mvar = refl

-- a port where an offer is open alone is declared
pub declared : {M : Type 0} (w : Setting M) (s : State M) (κ : Option PortKind) (o : Offer) → poll_at w s (at_port κ o) ≡ Alone → (k : PortKind) × (κ ≡ Some k)
declared w s None o e = absurd (let z : ◌≡◌ {A = ℕ} 0 1 = cc in omega arith)
declared w s (Some k) o e = (k, refl)

module _ {M : Type 0} (w : Setting M) (limit : ℕ) (p : ℕ) (k : PortKind) (here : port_kind w.script.ports p ≡ Some k) where
  -- commits at the port `q`

  commit_changes : (f : Meaning M → Meaning M) (μ : BaseKind → Meaning M) (q : ℕ) (j : PortKind) (g : List M → List M) (gs ts : List M)
      → port_kind w.script.ports q ≡ Some j
      → (f (μ (Port j))).held p ≡ cond (eqb p q) (g ((μ (Port j)).held p)) ((μ (Port j)).held p)
      → (p ≢ q → (gs ≡ []) × (ts ≡ []))
      → (p ≡ q → Change w limit (w.kinds (Port j)) ((μ (Port j)).held p) gs ts (g ((μ (Port j)).held p)))
      → Change w limit (w.kinds (Port k)) ((μ (Port k)).held p) gs ts ((means_with (Port j) f μ (Port k)).held p)
  commit_changes f μ q j g gs ts there e none some = go (commit_cases (Port j) (Port k) f μ q p g e)
    where
      same : p ≡ q → Port k ≡ Port j
      same d = let h : k ≡ j = cc in ap Port h

      go : ElsewhereOrThere (Port j) q (Port k) p ((μ (Port k)).held p) (g ((μ (Port j)).held p)) ((means_with (Port j) f μ (Port k)).held p)
          → Change w limit (w.kinds (Port k)) ((μ (Port k)).held p) gs ts ((means_with (Port j) f μ (Port k)).held p)
      go (inl h) = let n = none (λ d. h.0 (same d) d) in nothing n.0 n.1 h.1
      go (inr h) = rw h.2 (rw h.0 (some h.1))

  give_changes : (f : Meaning M → Meaning M) (μ : BaseKind → Meaning M) (q : ℕ) (j : PortKind) (m : M)
      → port_kind w.script.ports q ≡ Some j
      → (f (μ (Port j))).held p ≡ cond (eqb p q) ((μ (Port j)).held p ++ (m ∷ [])) ((μ (Port j)).held p)
      → (length ((μ (Port j)).held q) < limit) × ((w.kinds (Port j)).holds ≡ true)
      → Change w limit (w.kinds (Port k)) ((μ (Port k)).held p) (only_at p q m) [] ((means_with (Port j) f μ (Port k)).held p)
  give_changes f μ q j m there e room = commit_changes f μ q j (λ xs. xs ++ (m ∷ [])) (only_at p q m) [] there e
      (λ d. (only_elsewhere p q m d, refl))
      (λ d. a_give m (subst (λ x. (length ((μ (Port j)).held x) < limit) × ((w.kinds (Port j)).holds ≡ true)) (sym d) room) (only_here p q m d) refl refl)

  take_changes : (f : Meaning M → Meaning M) (μ : BaseKind → Meaning M) (q : ℕ) (j : PortKind) (m : M)
      → port_kind w.script.ports q ≡ Some j
      → (f (μ (Port j))).held p ≡ cond (eqb p q) (cond (w.kinds (Port j)).keeps ((μ (Port j)).held p) (younger ((μ (Port j)).held p))) ((μ (Port j)).held p)
      → (0 < length ((μ (Port j)).held q)) ⊎ ((w.kinds (Port j)).holds ≡ false)
      → m ≡ or_blank w (oldest ((μ (Port j)).held q))
      → Change w limit (w.kinds (Port k)) ((μ (Port k)).held p) [] (only_at p q m) ((means_with (Port j) f μ (Port k)).held p)
  take_changes f μ q j m there e some is = commit_changes f μ q j (λ xs. cond (w.kinds (Port j)).keeps xs (younger xs)) [] (only_at p q m) there e
      (λ d. (refl, only_elsewhere p q m d))
      (λ d. a_take (subst (λ x. (0 < length ((μ (Port j)).held x)) ⊎ ((w.kinds (Port j)).holds ≡ false)) (sym d) some) refl (only_here p q m d ∙ ap (λ x. x ∷ []) (is ∙ ap (λ x. or_blank w (oldest ((μ (Port j)).held x))) (sym d))) refl)

  module _ (lawful : LawfulKinds limit w) where
    -- a leaf that is settled alone
    leaf_changes : (s : State M) (t : Task M) (y i : ℕ) (b : Base M) → reply w s t y i b ≡ Alone
        → Change w limit (w.kinds (Port k)) ((s.means (Port k)).held p) (given_by p b t.register) (taken_by p b (result w s y i b)) ((commit_at w (placed w y i b) t.register s.means (Port k)).held p)
    leaf_changes s t y i (always m) alone = nothing refl refl refl
    leaf_changes s t y i nack alone = nothing refl refl refl
    leaf_changes s t y i (send q) alone = let d = declared w s (port_kind w.script.ports q) _ alone in
        let a = rw d.1 at alone in let K = w.kinds (Port d.0) in let μ = s.means (Port d.0) in
        rw d.1 (give_changes (committed K _ t.register) s.means q d.0 t.register d.1
        (ap (λ r. cond (eqb p q) (held_after K.keeps r Give t.register (μ.held p)) (μ.held p)) a)
        ((lawful (Port d.0)).give_alone μ.offers (λ x. length (μ.held x)) μ.clock _ refl a))
    leaf_changes s t y i (recv q) alone = let d = declared w s (port_kind w.script.ports q) _ alone in
        let a = rw d.1 at alone in let K = w.kinds (Port d.0) in let μ = s.means (Port d.0) in
        rw d.1 (take_changes (committed K _ t.register) s.means q d.0 _ d.1
        (ap (λ r. cond (eqb p q) (held_after K.keeps r Take t.register (μ.held p)) (μ.held p)) a)
        ((lawful (Port d.0)).take_alone μ.offers (λ x. length (μ.held x)) μ.clock _ refl a)
        (ap (λ r. or_blank w (handed r Take (μ.held q))) a))
    leaf_changes s t y i (due d) alone = nothing refl refl (ap (λ b. (cond b (committed (w.kinds Timeout) (record { sync = y; leaf = i; port = 0; side = Take; due = d }) t.register (s.means (Port k))) (s.means (Port k))).held p) (no_port k))

    step_changes : (s : State M) (v : Move) (rs : List (Event M)) (s' : State M) (a : Step w s v rs s')
        → Change w limit (w.kinds (Port k)) ((s.means (Port k)).held p) (step_gives a p) (step_takes a p) ((s'.means (Port k)).held p)
    step_changes s v rs s' (ends t r _ _ _ e) = nothing refl refl (ap (held_in (Port k) p) e)
    step_changes s v rs s' (emits t r _ _ _ e) = nothing refl refl (ap (held_in (Port k) p) e)
    step_changes s v rs s' (returns t r _ _ _ e) = nothing refl refl (ap (held_in (Port k) p) e)
    step_changes s v rs s' (spawns t b r _ _ _ e) = nothing refl refl (ap (held_in (Port k) p) e)
    step_changes s v rs s' (syncs t x r _ _ bs _ ls _ y _ _ e) = nothing refl refl (ap (held_in (Port k) p) e ∙ ap (λ f. f p) (enrolled_held (offers_in w (Port k) y 0 ls) (s.means (Port k))))
    step_changes s v rs s' (settles_one t y i l _ _ c σs _ _ e) =
        subst (λ ys. Change w limit (w.kinds (Port k)) ((s.means (Port k)).held p) (given_by p l.base t.register) (taken_by p l.base (result w s y i l.base)) ys)
        (sym (ap (held_in (Port k) p) e ∙ ap (λ f. f p) (withdrawn_held σs (commit_at w (placed w y i l.base) t.register s.means (Port k)))))
        (leaf_changes s t y i l.base c)
    step_changes s v rs s' (settles_pair g r y i z j q l m _ _ _ _ _ σs _ _ e) = nothing refl refl (ap (held_in (Port k) p) e ∙ ap (λ f. f p) (withdrawn_held σs (s.means (Port k))))

    act_changes : (s : State M) (rs : List (Event M)) (s' : State M) (a : Act w s rs s')
        → Change w limit (w.kinds (Port k)) ((s.means (Port k)).held p) (act_gives a p) (act_takes a p) ((s'.means (Port k)).held p)
    act_changes s rs s' (steps v a) = step_changes s v rs s' a
    act_changes s rs s' (posts q m there alone _ e) = let K = w.kinds (Port Mailbox) in let μ = s.means (Port Mailbox) in
        subst (λ (x : State M). Change w limit (w.kinds (Port k)) ((s.means (Port k)).held p) (only_at p q m) [] ((x.means (Port k)).held p)) (sym e)
        (give_changes (with_post w q m) s.means q Mailbox m there
        (ap (λ r. cond (eqb p q) (held_after K.keeps r Give m (μ.held p)) (μ.held p)) alone)
        ((lawful (Port Mailbox)).give_alone (enrolled (posting q) μ).offers (λ x. length (μ.held x)) μ.clock (posting q) refl alone))
    act_changes s rs s' (clocks c _ _ _ e) = nothing refl refl (ap (held_in (Port k) p) e)

-- a take from a kind that can hold gets the oldest
first_out : {M : Type 0} (w : Setting M) (K : Kind) → K.holds ≡ true → (xs : List M) → (0 < length xs) ⊎ (K.holds ≡ false) → xs ≡ or_blank w (oldest xs) ∷ younger xs
first_out w K f [] (inl d) = absurd (omega arith)
first_out w K f [] (inr d) = absurd (true≢false (sym f ∙ d))
first_out w K f (x ∷ xs) d = refl

oldest_stays : {M : Type 0} (xs ys : List M) (m : M) → oldest xs ≡ Some m → oldest (xs ++ ys) ≡ Some m
oldest_stays [] ys m e = absurd (let z : ◌≡◌ {A = ℕ} 0 1 = cc in omega arith)
oldest_stays (x ∷ xs) ys m e = e

younger_fewer : {M : Type 0} (xs : List M) → length (younger xs) ≤ length xs
younger_fewer [] = omega arith
younger_fewer (x ∷ xs) = omega arith

-- what was given and taken goes on with what a change gives and takes
module _ {M : Type 0} (w : Setting M) (limit : ℕ) (K : Kind) (gs ts xs gs' ts' ys : List M) where
  loses_more : Change w limit K xs gs' ts' ys → K.holds ≡ true → K.keeps ≡ false → gs ≡ ts ++ xs → gs ++ gs' ≡ (ts ++ ts') ++ ys
  loses_more (nothing a b c) f l h = rw (a, b, c, append-nil gs, append-nil ts) h
  loses_more (a_give m _ a b c) f l h = rw (a, b, c, append-nil, h, append_assoc) refl
  loses_more (a_take some a b c) f l h = rw (a, b, c, l, append-nil, append_assoc) (h ∙ ap (λ zs. ts ++ zs) (first_out w K f xs some))

  keeps_more : Change w limit K xs gs' ts' ys → K.holds ≡ true → K.keeps ≡ true → (gs ≡ xs) × AllByRecursion (λ m. oldest xs ≡ Some m) ts
      → (gs ++ gs' ≡ ys) × AllByRecursion (λ m. oldest ys ≡ Some m) (ts ++ ts')
  keeps_more (nothing a b c) f l h = rw (a, b, c, append-nil gs, append-nil ts) h
  keeps_more (a_give m _ a b c) f l h = rw (a, b, c, append-nil, h.0) (refl, All-weaker _ _ (oldest_stays xs (m ∷ [])) ts h.1)
  keeps_more (a_take some a b c) f l h = rw (a, b, c, l, append-nil) (h.0, All-push _ ts _ h.1 (ap oldest (first_out w K f xs some)))

  none_more : Change w limit K xs gs' ts' ys → K.holds ≡ false → (gs ≡ []) × (xs ≡ []) × AllByRecursion (λ m. m ≡ w.messages.blank) ts
      → (gs ++ gs' ≡ []) × (ys ≡ []) × AllByRecursion (λ m. m ≡ w.messages.blank) (ts ++ ts')
  none_more (nothing a b c) f h = rw (a, b, c, append-nil gs, append-nil ts) h
  none_more (a_give m d a b c) f h = absurd (true≢false (sym d.1 ∙ f))
  none_more (a_take some a b c) f h = rw (a, b, c, append-nil, h.1)
      (h.0, cond_both K.keeps [] [] (λ (zs : List M). zs ≡ []) (λ _. refl) (λ _. refl), All-push _ ts _ h.2 refl)

  few_more : Change w limit K xs gs' ts' ys → length xs ≤ limit → length ys ≤ limit
  few_more (nothing a b c) h = rw c h
  few_more (a_give m d a b c) h = rw (c, length_push) (let z = d.0 in omega arith)
  few_more (a_take some a b c) h = rw c (cond_both K.keeps xs (younger xs) (λ zs. length zs ≤ limit) (λ _. h) (λ _. let z = younger_fewer xs in omega arith))

pub held_law : (M : Type 0) → HeldLaw M
held_law M limit w lawful tr s (begins _ e) p k here = let h = ap (held_in (Port k) p) e in
    record { loses = λ _ _. sym h; keeps = λ _ _. (sym h, tt); none = λ _. (refl, h, tt); few = rw h (omega arith) }
held_law M limit w lawful tr s (goes_on {s = s₀} rs r a f) p k here = go (held_law M limit w lawful _ s₀ r p k here) (act_changes w limit p k here lawful s₀ rs s a)
  where
    K : Kind
    K = w.kinds (Port k)

    go : PortTold r limit p K ((s₀.means (Port k)).held p) → Change w limit K ((s₀.means (Port k)).held p) (act_gives a p) (act_takes a p) ((s.means (Port k)).held p)
        → PortTold (goes_on rs r a f) limit p K ((s.means (Port k)).held p)
    go h c = record {
      loses = λ x y. loses_more w limit K (given r p) (taken r p) _ _ _ _ c x y (h.loses x y);
      keeps = λ x y. keeps_more w limit K (given r p) (taken r p) _ _ _ _ c x y (h.keeps x y);
      none = λ x. none_more w limit K (given r p) (taken r p) _ _ _ _ c x (h.none x);
      few = few_more w limit K (given r p) (taken r p) _ _ _ _ c h.few;
    }

-- a kind holds nothing at a port that is not its own

take_none : {M : Type 0} (keeps : Bool) (r : Reply) (m : M) → held_after keeps r Take m [] ≡ []
take_none keeps Closed m = refl
take_none keeps (With z j) m = refl
take_none {M} keeps Alone m = cond_both keeps [] [] (λ (xs : List M). xs ≡ []) (λ _. refl) (λ _. refl)

module _ {M : Type 0} (w : Setting M) (c : BaseKind) (p : ℕ) (other : (k : PortKind) → port_kind w.script.ports p ≡ Some k → c ≡ Port k → ⊥) where
  commit_none : (f : Meaning M → Meaning M) (μ : BaseKind → Meaning M) (q : ℕ) (k : PortKind) (g : List M → List M)
      → port_kind w.script.ports q ≡ Some k
      → (f (μ (Port k))).held p ≡ cond (eqb p q) (g ((μ (Port k)).held p)) ((μ (Port k)).held p)
      → (μ c).held p ≡ [] → (means_with (Port k) f μ c).held p ≡ []
  commit_none f μ q k g there e h = go (commit_cases (Port k) c f μ q p g e)
    where
      go : ElsewhereOrThere (Port k) q c p ((μ c).held p) (g ((μ (Port k)).held p)) ((means_with (Port k) f μ c).held p) → (means_with (Port k) f μ c).held p ≡ []
      go (inl a) = a.1 ∙ h
      go (inr a) = absurd (other k (ap (port_kind w.script.ports) a.1 ∙ there) a.0)

  offer_none : (o : Offer) (m : M) (μ : BaseKind → Meaning M) (κ : Option PortKind) → port_kind w.script.ports o.port ≡ κ
      → (μ c).held p ≡ [] → (commit_at w (at_port κ o) m μ c).held p ≡ []
  offer_none o m μ None there h = h
  offer_none o m μ (Some k) there h = commit_none (committed (w.kinds (Port k)) o m) μ o.port k (held_after (w.kinds (Port k)).keeps (polled (w.kinds (Port k)) (μ (Port k)) o) o.side m) there refl h

  leaf_none : (y i : ℕ) (b : Base M) (m : M) (μ : BaseKind → Meaning M) → (μ c).held p ≡ [] → (commit_at w (placed w y i b) m μ c).held p ≡ []
  leaf_none y i (always n) m μ h = h
  leaf_none y i nack m μ h = h
  leaf_none y i (send q) m μ h = offer_none _ m μ (port_kind w.script.ports q) refl h
  leaf_none y i (recv q) m μ h = offer_none _ m μ (port_kind w.script.ports q) refl h
  leaf_none y i (due d) m μ h = go (commit_cases Timeout c (committed K o m) μ 0 p (held_after K.keeps (polled K (μ Timeout) o) Take m) refl)
    where
      K : Kind
      K = w.kinds Timeout

      o : Offer
      o = record { sync = y; leaf = i; port = 0; side = Take; due = d }

      go : ElsewhereOrThere Timeout 0 c p ((μ c).held p) (held_after K.keeps (polled K (μ Timeout) o) Take m ((μ Timeout).held p)) ((means_with Timeout (committed K o m) μ c).held p)
          → (means_with Timeout (committed K o m) μ c).held p ≡ []
      go (inl a) = a.1 ∙ h
      go (inr a) = a.2 ∙ ap (held_after K.keeps (polled K (μ Timeout) o) Take m) (ap (λ x. (μ x).held p) (sym a.0) ∙ h) ∙ take_none K.keeps (polled K (μ Timeout) o) m

  step_none : (s : State M) (v : Move) (rs : List (Event M)) (s' : State M) → Step w s v rs s' → (s.means c).held p ≡ [] → (s'.means c).held p ≡ []
  step_none s v rs s' (ends t r _ _ _ e) h = ap (held_in c p) e ∙ h
  step_none s v rs s' (emits t r _ _ _ e) h = ap (held_in c p) e ∙ h
  step_none s v rs s' (returns t r _ _ _ e) h = ap (held_in c p) e ∙ h
  step_none s v rs s' (spawns t b r _ _ _ e) h = ap (held_in c p) e ∙ h
  step_none s v rs s' (syncs t x r _ _ bs _ ls _ y _ _ e) h = ap (held_in c p) e ∙ ap (λ f. f p) (enrolled_held (offers_in w c y 0 ls) (s.means c)) ∙ h
  step_none s v rs s' (settles_one t y i l _ _ _ σs _ _ e) h = ap (held_in c p) e ∙ ap (λ f. f p) (withdrawn_held σs (commit_at w (placed w y i l.base) t.register s.means c)) ∙ leaf_none y i l.base t.register s.means h
  step_none s v rs s' (settles_pair g r y i z j q l m _ _ _ _ _ σs _ _ e) h = ap (held_in c p) e ∙ ap (λ f. f p) (withdrawn_held σs (s.means c)) ∙ h

  act_none : (s : State M) (rs : List (Event M)) (s' : State M) → Act w s rs s' → (s.means c).held p ≡ [] → (s'.means c).held p ≡ []
  act_none s rs s' (steps v a) h = step_none s v rs s' a h
  act_none s rs s' (posts q m there _ _ e) h = ap (held_in c p) e ∙ commit_none (with_post w q m) s.means q Mailbox (held_after (w.kinds (Port Mailbox)).keeps (post_reply w s q) Give m) there refl h
  act_none s rs s' (clocks k _ _ _ e) h = ap (held_in c p) e ∙ h

pub own_ports_law : (M : Type 0) → OwnPortsLaw M
own_ports_law M w tr s (begins _ e) c p other = ap (held_in c p) e
own_ports_law M w tr s (goes_on {s = s₀} rs r a _) c p other = act_none w c p other s₀ rs s a (own_ports_law M w _ s₀ r c p other)
