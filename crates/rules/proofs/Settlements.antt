-- What the record of a settlement says of the tasks that it settles.
use Rattle.std.proofs.Common.{◌≡◌, ℕ, suc, ◌≢◌, List, [], map, Some, Option, sym, refl, ap, ◌∙◌, subst, arith}
use mathlib.Core.List.Memᴰ
use mathlib.Core.List.{Memᴰ}
use Rattle.std.specs.List.{AllByRecursion}
use Rattle.grammar.specs.declared.words.PortKind.{PortKind}
use Rattle.rows.specs.Rows.{port_kind}
use Rattle.trace.specs.declared.record.Event.{Event}
use Rattle.trace.specs.declared.record.Event.TheVariants as line
use Rattle.rules.specs.declared.kind.BaseKind.TheVariants.{Port, Timeout}
use Rattle.rules.specs.declared.nack.Nack.{Nack}
use Rattle.rules.specs.declared.nack.Nack.TheVariants.{Fired}
use Rattle.rules.specs.declared.offer.Side.TheVariants.{Take}
use Rattle.rules.specs.declared.offer.Offer.{Offer}
use Rattle.rules.specs.declared.offer.Reply.TheVariants.{Alone}
use Rattle.rules.specs.Kinds.{handed, oldest}
use Rattle.rules.specs.States.{Setting, Base, always, send, recv, due, nack, Leaf, Task, State}
use Rattle.rules.specs.Able.{at_port, poll_at, nack_reply, reply, Stands}
use Rattle.rules.specs.Settling.{or_blank, handed_at, result, shown, put, settled, Settlement, told_of}
use Rattle.rules.specs.Steps.{Move, Step, ends, emits, returns, spawns, syncs, settles_one, settles_pair}
use Rattle.rules.specs.Runs.{Act, steps, posts, clocks}
use Rattle.rules.specs.Laws.{LawfulKinds, WentOn, Joins, PairsJoin, AloneGives, of_always, of_nack, of_send, of_recv, of_timeout, SettlesAlone, OnesSettle}
use Rattle.rules.proofs.Members.{mem_all}
use Rattle.rules.proofs.Tasks.{put_mem, put_self}
use Rattle.rules.proofs.Sound.{Sound, sound_run}
use Rattle.rules.proofs.Records.{all_fires, all_starts}
use Rattle.rules.proofs.Once.{two_syncs}
use Rattle.rules.proofs.Held.{declared, own_ports_law}

-- what a record says, where timeouts hold nothing; one that settles nothing says nothing
abbrev Says : {M : Type 0} → Setting M → State M → State M → Event M → Type 0
Says w s s' (line.Start t b f y) = Unit {0}
Says w s s' (line.Step t p m) = Unit {0}
Says w s s' (line.Emit t p m) = Unit {0}
Says w s s' (line.Sync t y n) = Unit {0}
Says w s s' (line.One n y i m) = (s.means Timeout).held 0 ≡ [] → SettlesAlone w s s' n y i m
Says w s s' (line.Pair n y i z j m) = (limit : ℕ) → LawfulKinds limit w → Joins w s s' n y i z j m
Says w s s' (line.Fire t y) = Unit {0}
Says w s s' (line.End t) = Unit {0}
Says w s s' (line.Post p m) = Unit {0}
Says w s s' line.Clock = Unit {0}

-- The two tasks of a pair are two.
two_tasks : {M : Type 0} (w : Setting M) (s : State M) → Sound w s → (g r : Task M) (y i z j : ℕ) (l k : Leaf M)
    → Stands s g y i l → Stands s r z j k → y ≢ z → g.number ≢ r.number
two_tasks {M} w s h g r y i z j l k a b d e = let p = ap (λ (u : Task M). u.wait) (h.tidy.numbers g r a.live b.live e) in let q = a.waits in let q' = b.waits in d (cc)

-- a settled task, once the nacks are told
went_on : {M : Type 0} (w : Setting M) (σs : List Settlement) (us : List (Task M)) (s' : State M) → s'.tasks ≡ map (told_of σs) us
    → (t : Task M) (l : Leaf M) (m : M) → Memᴰ (settled w t l m) us → WentOn w t l m s'
went_on w σs us s' e t l m k = record { task = told_of σs (settled w t l m); live = subst (λ ts. Memᴰ (told_of σs (settled w t l m)) ts) (sym e) (Memᴰ.map (told_of σs) k); number = refl; body = refl; place = refl; register = refl; runs = refl }

-- a leaf that is open alone: its nack has fired, its port is declared, a give is handed nothing and a take the oldest

fired_alone : (k : Nack) → nack_reply k ≡ Alone → k ≡ Fired
fired_alone k e = grind arith

handed_alone : {M : Type 0} (w : Setting M) (s : State M) (κ : Option PortKind) (o : Offer) (k : PortKind) → κ ≡ Some k → poll_at w s (at_port κ o) ≡ Alone
    → handed_at w s (at_port κ o) ≡ handed Alone o.side ((s.means (Port k)).held o.port)
handed_alone w s κ o k d e = let a = rw d at e in rw d (ap (λ r. handed r o.side ((s.means (Port k)).held o.port)) a)

alone_gives : {M : Type 0} (w : Setting M) (s : State M) → (s.means Timeout).held 0 ≡ [] → (t : Task M) (y i : ℕ) (b : Base M) → reply w s t y i b ≡ Alone
    → AloneGives w s t b (shown w s t y i b) (result w s y i b)
alone_gives w s none t y i (always m) e = of_always m refl refl refl
alone_gives w s none t y i nack e = of_nack refl (fired_alone t.nack e) refl refl
alone_gives w s none t y i (send p) e = let d = declared w s (port_kind w.script.ports p) _ e in
    of_send p refl refl (ap (or_blank w) (handed_alone w s _ _ d.0 d.1 e))
alone_gives w s none t y i (recv p) e = let d = declared w s (port_kind w.script.ports p) _ e in
    of_recv p d.0 refl d.1 refl (ap (or_blank w) (handed_alone w s _ _ d.0 d.1 e))
alone_gives w s none t y i (due d) e =
    let blank = ap (λ r. or_blank w (handed r Take ((s.means Timeout).held 0))) e ∙ ap (λ xs. or_blank w (oldest xs)) none in
    of_timeout d refl blank blank

-- every act

step_says : {M : Type 0} (w : Setting M) (s : State M) → Sound w s → (v : Move) (rs : List (Event M)) (s' : State M) → Step w s v rs s' → AllByRecursion (Says w s s') rs
step_says w s h v rs s' (ends t r _ _ f e) = rw f (tt, tt)
step_says w s h v rs s' (emits t r _ _ f e) = rw f (tt, tt)
step_says w s h v rs s' (returns t r _ _ f e) = rw f (tt, tt)
step_says w s h v rs s' (spawns t b r _ _ f e) = rw f (tt, (tt, tt))
step_says w s h v rs s' (syncs t x r _ _ bs _ ls _ y _ f e) = rw f (tt, all_starts (Says w s s') (λ n b t y. tt) t.number y (suc s.last_task) bs)
step_says {M} w s h v rs s' (settles_one t y i l a _ o σs _ f e) = rw f (alone, all_fires (Says w s s') (λ n y. tt) σs s.tasks)
  where
    m : M
    m = result w s y i l.base

    alone : (s.means Timeout).held 0 ≡ [] → SettlesAlone w s s' t.number y i (shown w s t y i l.base)
    alone none = record {
      task = t;
      its_number = refl;
      leaf = l;
      stands = a;
      is_alone = o;
      result = m;
      gives = alone_gives w s none t y i l.base o;
      after = went_on w σs (put (settled w t l m) s.tasks) s' (ap (λ (u : State M). u.tasks) e) t l m (put_self (settled w t l m) t s.tasks a.live refl);
    }
step_says {M} w s h v rs s' (settles_pair g r y i z j p l k a d b d' o σs _ f e) = rw f (joined, all_fires (Says w s s') (λ n y. tt) σs s.tasks)
  where
    g' : Task M
    g' = settled w g l w.messages.blank

    r' : Task M
    r' = settled w r k g.register

    after : (t : Task M) (l : Leaf M) (m : M) → Memᴰ (settled w t l m) (put r' (put g' s.tasks)) → WentOn w t l m s'
    after = went_on w σs (put r' (put g' s.tasks)) s' (ap (λ (u : State M). u.tasks) e)

    joined : (limit : ℕ) → LawfulKinds limit w → Joins w s s' g.number y i z j g.register
    joined limit c =
        let apart = two_syncs limit w c s v g r y i z j p l k d d' o in
        let two = two_tasks w s h g r y i z j l k a b apart in
        record {
          giver = g;
          taker = r;
          its_number = refl;
          two = two;
          two_syncs = apart;
          port = p;
          gives_at = l;
          takes_at = k;
          gives = a;
          takes = b;
          a_send = d;
          a_recv = d';
          message = refl;
          giver_after = after g l w.messages.blank (put_mem r' g' (put g' s.tasks) (put_self g' g s.tasks a.live refl) two);
          taker_after = after r k g.register (put_self r' r (put g' s.tasks) (put_mem g' r s.tasks b.live (λ t. two (sym t))) refl);
        }

act_says : {M : Type 0} (w : Setting M) (s : State M) → Sound w s → (rs : List (Event M)) (s' : State M) → Act w s rs s' → AllByRecursion (Says w s s') rs
act_says w s h rs s' (steps v a) = step_says w s h v rs s' a
act_says w s h rs s' (posts p m _ _ f e) = rw f (tt, tt)
act_says w s h rs s' (clocks k _ _ f e) = rw f (tt, tt)

pub pairs_join : (M : Type 0) → PairsJoin M
pairs_join M limit w c tr s s' r rs a n y i z j m k = mem_all (Says w s s') (line.Pair n y i z j m) rs (act_says w s (sound_run w tr s r) rs s' a) k limit c

pub ones_settle : (M : Type 0) → OnesSettle M
ones_settle M w tr s s' r rs a n y i m k = mem_all (Says w s s') (line.One n y i m) rs (act_says w s (sound_run w tr s r) rs s' a) k (own_ports_law M w tr s r Timeout 0 (λ j _ e. grind arith))
