-- Who takes no step stays as he is, but for his nack; and whoever lives afterwards lived before or was started.
use Rattle.std.proofs.Common.{◌≡◌, ℕ, suc, not, eqb, ◌⊎◌, List, [], ◌∷◌, ◌++◌, map, filter, sym, refl, ap, ◌∙◌, subst, inl, inr}
use mathlib.Core.List.Memᴰ
use mathlib.Core.List.{Memᴰ}
use Rattle.std.proofs.lemmas.Bool.{ne_eqb}
use Rattle.trace.specs.declared.record.Event.{Event}
use Rattle.trace.specs.declared.record.Event.TheVariants as line
use Rattle.rules.specs.declared.nack.Nack.{Nack}
use Rattle.rules.specs.States.{Setting, running, Task, State}
use Rattle.rules.specs.Settling.{put, Settlement, told_of}
use Rattle.rules.specs.Steps.{started, nack_tasks, nack_starts, ends, emits, returns, spawns, syncs, settles_one, settles_pair}
use Rattle.rules.specs.Runs.{Act, steps, posts, clocks}
use Rattle.rules.specs.Laws.{act_steppers, Unmoved, Framed, FrameLaw}
use Rattle.rules.proofs.Members.{kept_mem, mem_kept}
use Rattle.rules.proofs.Tasks.{put_mem, From, from_put}

-- where only tasks with the numbers `ns` change or go

abbrev SameBody : {M : Type 0} → Task M → Task M → Type 0
SameBody u t = (u.number ≡ t.number) × (u.body ≡ t.body)

-- Every other task of `ts` is still in `us`, and each of `us` was in `ts`.
record Frames {M : Type 0} (ns : List ℕ) (ts us : List (Task M)) : Type 0 where
  others : (t : Task M) → Memᴰ t ts → (Memᴰ t.number ns → ⊥) → (t' : Task M) × Memᴰ t' us × Unmoved t t'
  from : From SameBody ts us

unmoved_self : {M : Type 0} (t : Task M) → Unmoved t t
unmoved_self t = record { number = refl; body = refl; place = refl; register = refl; wait = refl }

module _ {M : Type 0} (ns : List ℕ) (ts : List (Task M)) where
  frames_self : Frames ns ts ts
  frames_self = record { others = λ t m f. (t, m, unmoved_self t); from = λ t m. (t, m, (refl, refl)) }

  frames_kept : (n : ℕ) → Memᴰ n ns → Frames ns ts (filter (λ u. not (eqb u.number n)) ts)
  frames_kept n i = record {
    others = λ t m f. (t, kept_mem (λ u. not (eqb u.number n)) t ts m (ap not (ne_eqb t.number n (λ e. f (subst (λ x. Memᴰ x ns) (sym e) i)))), unmoved_self t);
    from = λ t m. (t, (mem_kept _ t ts m).0, (refl, refl));
  }

  frames_put : (us : List (Task M)) (t₀ t : Task M) → Memᴰ t₀ ts → SameBody t₀ t → Memᴰ t.number ns → Frames ns ts us → Frames ns ts (put t us)
  frames_put us t₀ t m e i h = record {
    others = λ u k f. let p = h.others u k f in (p.0, put_mem t p.0 us p.1 (λ d. f (subst (λ x. Memᴰ x ns) (sym d ∙ p.2.number) i)), p.2);
    from = from_put SameBody ts us t₀ t m e h.from;
  }

  frames_one : (t₀ t : Task M) → Memᴰ t₀ ts → SameBody t₀ t → Memᴰ t.number ns → Frames ns ts (put t ts)
  frames_one t₀ t m e i = frames_put ts t₀ t m e i frames_self

  frames_told : (σs : List Settlement) (us : List (Task M)) → Frames ns ts us → Frames ns ts (map (told_of σs) us)
  frames_told σs us h = record {
    others = λ t m f. let p = h.others t m f in let u = p.2 in
        (told_of σs p.0, Memᴰ.map (told_of σs) p.1, record { number = u.number; body = u.body; place = u.place; register = u.register; wait = u.wait });
    from = λ t m. let p = Memᴰ.of_map (told_of σs) us m in let q = h.from p.0 p.1 in
        (q.0, q.1, (q.2.0 ∙ ap (λ (v : Task M). v.number) p.2, q.2.1 ∙ ap (λ (v : Task M). v.body) p.2));
  }

-- tasks that are started

-- It is at its start, and its record is in `rs`.
abbrev JustStarted : {M : Type 0} → Setting M → List (Event M) → Task M → Type 0
JustStarted w rs t = (f y : ℕ) × Memᴰ (line.Start t.number t.body f y) rs × (t.place ≡ 0) × (t.register ≡ w.messages.blank) × (t.wait ≡ running)

module _ {M : Type 0} (w : Setting M) where
  started_as : (rs : List (Event M)) (t : Task M) (n b f y : ℕ) (k : Nack) → t ≡ started w n b k → Memᴰ (line.Start n b f y) rs → JustStarted w rs t
  started_as rs t n b f y k e m = subst (JustStarted w rs) (sym e) (f, y, m, refl, refl, refl)

  started_later : (r : Event M) (rs : List (Event M)) (t : Task M) → JustStarted w rs t → JustStarted w (r ∷ rs) t
  started_later r rs t p = (p.0, p.1, Memᴰ.tail p.2, p.3, p.4, p.5)

  nacks_started : (f y n c : ℕ) (bs : List ℕ) (t : Task M) → Memᴰ t (nack_tasks w y n c bs) → JustStarted w (nack_starts f y n bs) t
  nacks_started f y n c [] t m = absurd (Memᴰ.not-nil m)
  nacks_started f y n c (b ∷ bs) t (Memᴰ.head e) = started_as _ t n b f y _ e (Memᴰ.head refl)
  nacks_started f y n c (b ∷ bs) t (Memᴰ.tail m) = started_later _ _ t (nacks_started f y (suc n) (suc c) bs t m)

-- every act

abbrev Lived : {M : Type 0} → List (Task M) → Task M → Type 0
Lived {M} ts t' = (t : Task M) × Memᴰ t ts × (t.number ≡ t'.number) × (t.body ≡ t'.body)

lived : {M : Type 0} {ns : List ℕ} {ts us : List (Task M)} → Frames ns ts us → (t : Task M) → Memᴰ t us → Lived ts t
lived h t m = let p = h.from t m in (p.0, p.1, p.2.0, p.2.1)

module _ {M : Type 0} (w : Setting M) (s : State M) (rs : List (Event M)) (s' : State M) (a : Act w s rs s') (us : List (Task M)) where
  framed : s'.tasks ≡ us → Frames (act_steppers a) s.tasks us → Framed w s rs s' a
  framed e h = let k = subst (Frames (act_steppers a) s.tasks) (sym e) h in record { others = k.others; lived = λ t m. inl (lived k t m) }

  framed_more : (vs : List (Task M)) → s'.tasks ≡ us ++ vs → Frames (act_steppers a) s.tasks us → ((t : Task M) → Memᴰ t vs → JustStarted w rs t) → Framed w s rs s' a
  framed_more vs e h f = record {
    others = λ t m n. let p = h.others t m n in (p.0, subst (Memᴰ p.0) (sym e) (Memᴰ.append_left vs p.1), p.2);
    lived = λ t m. go t (Memᴰ.append_cases us (subst (Memᴰ t) e m));
  }
    where
      go : (t : Task M) → Memᴰ t us ⊎ Memᴰ t vs → Lived s.tasks t ⊎ JustStarted w rs t
      go t (inl m) = inl (lived h t m)
      go t (inr m) = inr (f t m)

tasks_at : {M : Type 0} {s s' : State M} → s ≡ s' → s.tasks ≡ s'.tasks
tasks_at {M} e = ap (λ (x : State M). x.tasks) e

pub frame_law : (M : Type 0) → FrameLaw M
frame_law M w tr s _ rs s' (steps v (ends t r a b f e)) = framed w s rs s' _ _ (tasks_at e) (frames_kept _ s.tasks t.number (Memᴰ.head refl))
frame_law M w tr s _ rs s' (steps v (emits t r a b f e)) = framed w s rs s' _ _ (tasks_at e) (frames_one _ s.tasks t _ r.live (refl, refl) (Memᴰ.head refl))
frame_law M w tr s _ rs s' (steps v (returns t r a b f e)) = framed w s rs s' _ _ (tasks_at e) (frames_one _ s.tasks t _ r.live (refl, refl) (Memᴰ.head refl))
frame_law M w tr s _ rs s' (steps v (spawns t b r a c f e)) = framed_more w s rs s' _ _ _ (tasks_at e)
    (frames_one _ s.tasks t _ r.live (refl, refl) (Memᴰ.head refl))
    (λ u m. rw f (started_as w _ u _ b _ _ _ (Memᴰ.eq_of_singleton m) (Memᴰ.tail (Memᴰ.head refl))))
frame_law M w tr s _ rs s' (steps v (syncs t x r a b bs c ls d y g f e)) = framed_more w s rs s' _ _ _ (tasks_at e)
    (frames_one _ s.tasks t _ r.live (refl, refl) (Memᴰ.head refl))
    (λ u m. rw f (started_later w _ _ u (nacks_started w t.number y _ _ bs u m)))
frame_law M w tr s _ rs s' (steps v (settles_one t y i l a b c σs d f e)) = framed w s rs s' _ _ (tasks_at e)
    (frames_told _ s.tasks σs _ (frames_one _ s.tasks t _ a.live (refl, refl) (Memᴰ.head refl)))
frame_law M w tr s _ rs s' (steps v (settles_pair g r y i z j p l k a b c d q σs h f e)) = framed w s rs s' _ _ (tasks_at e)
    (frames_told _ s.tasks σs _ (frames_put _ s.tasks _ r _ c.live (refl, refl) (Memᴰ.tail (Memᴰ.head refl))
    (frames_one _ s.tasks g _ a.live (refl, refl) (Memᴰ.head refl))))
frame_law M w tr s _ rs s' (posts p m a b f e) = framed w s rs s' _ _ (tasks_at e) (frames_self _ s.tasks)
frame_law M w tr s _ rs s' (clocks k a b f e) = framed w s rs s' _ _ (tasks_at e) (frames_self _ s.tasks)
