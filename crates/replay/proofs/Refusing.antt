-- A call is sent away for one refusal, or accepted.
use Rattle.std.proofs.Common.{◌≡◌, ℕ, ◌^◌, ◌<◌, ◌⊎◌, List, [], ◌∷◌, Some, None, Ok, Err, Option, Result, sym, refl, ap, subst, inl, inr, arith}
use mathlib.Core.List.Memᴰ
use mathlib.Core.List.{Memᴰ}
use mathlib.Core.Logic.Dec
use native.Mathlib.Decide.{dec_lt}
use Rattle.std.specs.List.{AllByRecursion}
use Rattle.std.proofs.lemmas.Bool.{cases_order}
use Rattle.message.specs.declared.literal.LiteralFault.{LiteralFault}
use Rattle.message.specs.Literals.{Reads}
use Rattle.grammar.specs.declared.words.PortKind.{PortKind}
use Rattle.grammar.specs.declared.words.PortKind.TheVariants.{Channel, Mailbox, Ivar, Mvar}
use Rattle.script.specs.declared.fault.MessageFault.{MessageFault}
use Rattle.script.specs.declared.fault.MessageFault.TheVariants.{InScript, InPost}
use Rattle.rules.specs.declared.offer.Reply.{Reply}
use Rattle.rules.specs.declared.offer.Reply.TheVariants.{Closed, Alone, With}
use Rattle.rules.specs.States.{Setting}
use Rattle.replay.specs.declared.fault.RunFault.{RunFault}
use Rattle.replay.specs.declared.fault.RunFault.TheVariants.{FewCells, ShortPage, LongTrace, NotMailbox, NoRoom, ClockBack, Quiet}
use Rattle.replay.specs.declared.fault.CallFault.{CallFault}
use Rattle.replay.specs.declared.fault.CallFault.TheVariants.{Message, Run}
use Rattle.replay.specs.Faults.{run_number, call_number}
use Rattle.replay.specs.Replays.{Call, post, clock, turn, look, Replay, Describes, Refuses, Accepts}
use Rattle.rules.proofs.Places.{there_listed}

-- refusals with one number

number_once : (x y : RunFault) → run_number x ≡ run_number y → x ≡ y
number_once x y e = grind arith

numbers_apart : (x : RunFault) (f : MessageFault) → run_number x ≡ call_number (Message f) → ⊥
numbers_apart x f e = grind arith

module _ {M P : Type 0} (w : Setting M) (ρ : Replay M P) where
  pub message_once : (c : Call) (f g : MessageFault) → Describes w ρ c (Message f) → Describes w ρ c (Message g) → f ≡ g
  message_once (post cells page p bs) (InPost f) (InPost g) d e =
      let same : f.at ≡ g.at = omega (arith, e.1.most f.at d.1.within d.1.begins, d.1.most g.at e.1.within e.1.begins) in
      λ i. InPost (record { at = same i })
  message_once (post cells page p bs) (InPost f) (InScript i g) d e = absurd e
  message_once (post cells page p bs) (InScript i f) g d e = absurd d
  message_once (clock page ms) f g d e = absurd d
  message_once (turn cells page) f g d e = absurd d
  message_once look f g d e = absurd d

  described_once : (c : Call) (f g : CallFault) → Describes w ρ c f → Describes w ρ c g → call_number f ≡ call_number g → f ≡ g
  described_once c (Message f) (Message g) d e h = ap Message (message_once c f g d e)
  described_once c (Message f) (Run y) d e h = absurd (numbers_apart y f (sym h))
  described_once c (Run x) (Message g) d e h = absurd (numbers_apart x g h)
  described_once c (Run x) (Run y) d e h = ap Run (number_once x y h)

  pub refused_once : (c : Call) (f g : CallFault) → Refuses w ρ c f → Refuses w ρ c g → f ≡ g
  refused_once c f g a b = elim (cases_order (call_number f) (call_number g)) [
    | inl e ↦ described_once c f g a.describes b.describes e
    | inr (inl less) ↦ absurd (b.first f less a.describes)
    | inr (inr less) ↦ absurd (a.first g less b.describes)
  ]

-- of a list of refusals by rising number, the first that describes the state

-- their numbers rise, all above `n`
abbrev Rising : ℕ → List CallFault → Type 0
Rising n [] = Unit {0}
Rising n (f ∷ fs) = (n < call_number f) × Rising (call_number f) fs

pub above : (n : ℕ) (fs : List CallFault) → Rising n fs → (e : CallFault) → Memᴰ e fs → n < call_number e
above n [] up e m = absurd (Memᴰ.not-nil m)
above n (f ∷ fs) up e (Memᴰ.head h) = omega (arith, ap call_number h)
above n (f ∷ fs) up e (Memᴰ.tail m) = omega (arith, above (call_number f) fs up.1 e m)

module _ {M P : Type 0} (w : Setting M) (ρ : Replay M P) (c : Call) where
  abbrev pub Verdict : Type 0
  Verdict = ((f : CallFault) × Refuses w ρ c f) ⊎ Accepts w ρ c

  first_of : (n : ℕ) (fs : List CallFault) → Rising n fs → AllByRecursion (λ f. Dec (Describes w ρ c f)) fs
      → ((f : CallFault) → Describes w ρ c f → Memᴰ f fs) → Verdict
  first_of n [] up tests covers = inr (λ f d. Memᴰ.not-nil (covers f d))
  first_of n (f ∷ fs) up (yes d, tests) covers = inl (f, record { describes = d; first = λ e less x. before e less (covers e x) })
    where
      before : (e : CallFault) → call_number e < call_number f → Memᴰ e (f ∷ fs) → ⊥
      before e less (Memᴰ.head h) = omega (arith, ap call_number h)
      before e less (Memᴰ.tail m) = omega (arith, above (call_number f) fs up.1 e m)
  first_of n (f ∷ fs) up (no none, tests) covers = first_of (call_number f) fs up.1 tests (λ e d. later e d (covers e d))
    where
      later : (e : CallFault) → Describes w ρ c e → Memᴰ e (f ∷ fs) → Memᴰ e fs
      later e d (Memᴰ.head h) = absurd (none (subst (Describes w ρ c) h d))
      later e d (Memᴰ.tail m) = m

-- every refusal, by rising number, where that of a literal is `f`
abbrev every : LiteralFault → List CallFault
every f = Run FewCells ∷ (Run ShortPage ∷ (Run LongTrace ∷ (Run NotMailbox ∷ (Message (InPost f) ∷ (Run NoRoom ∷ (Run ClockBack ∷ (Run Quiet ∷ [])))))))

pub every_rises : (f : LiteralFault) → Rising 0 (every f)
every_rises f = omega arith

run_listed : (f : LiteralFault) (x : RunFault) → Memᴰ (Run x) (every f)
run_listed f FewCells = there_listed (every f) 0 _ refl
run_listed f ShortPage = there_listed (every f) 1 _ refl
run_listed f LongTrace = there_listed (every f) 2 _ refl
run_listed f NotMailbox = there_listed (every f) 3 _ refl
run_listed f NoRoom = there_listed (every f) 5 _ refl
run_listed f ClockBack = there_listed (every f) 6 _ refl
run_listed f Quiet = there_listed (every f) 7 _ refl

-- every refusal of a call is decided

pub is_mailbox : (o : Option PortKind) → Dec (o ≡ Some Mailbox)
is_mailbox None = no (λ e. grind arith)
is_mailbox (Some Channel) = no (λ e. grind arith)
is_mailbox (Some Mailbox) = yes refl
is_mailbox (Some Ivar) = no (λ e. grind arith)
is_mailbox (Some Mvar) = no (λ e. grind arith)

pub is_alone : (r : Reply) → Dec (r ≡ Alone)
is_alone Closed = no (λ e. grind arith)
is_alone Alone = yes refl
is_alone (With s l) = no (λ e. grind arith)

is_empty : {X : Type 0} (xs : List X) → Dec (xs ≡ [])
is_empty [] = yes refl
is_empty (x ∷ xs) = no (λ e. grind arith)

never : Dec ⊥
never = no (λ x. x)

-- bytes are read as a message, or refused
abbrev pub ReadOrRefused : {M : Type 0} → Setting M → List ℕ → Type 0
ReadOrRefused {M} w bs = (r : Result M LiteralFault) × Reads w.messages.literal bs r

-- what is known of a call: how its literal is read, or that its clock has 32 bits
abbrev pub Known : {M : Type 0} → Setting M → Call → Type 0
Known w (post cells page p bs) = ReadOrRefused w bs
Known w (clock page ms) = ms < 2 ^ 32
Known w (turn cells page) = Unit {0}
Known w look = Unit {0}

module _ {M P : Type 0} (w : Setting M) (ρ : Replay M P) where
  run_decided : (c : Call) (x : RunFault) → Dec (Describes w ρ c (Run x))
  unfolding dec_lt Dec.not is_mailbox is_alone is_empty never
  run_decided (post cells page p bs) FewCells = dec_lt _ _
  run_decided (post cells page p bs) ShortPage = dec_lt _ _
  run_decided (post cells page p bs) LongTrace = dec_lt _ _
  run_decided (post cells page p bs) NotMailbox = Dec.not (is_mailbox _)
  run_decided (post cells page p bs) NoRoom = Dec.not (is_alone _)
  run_decided (post cells page p bs) ClockBack = never
  run_decided (post cells page p bs) Quiet = never
  run_decided (clock page ms) ShortPage = dec_lt _ _
  run_decided (clock page ms) LongTrace = dec_lt _ _
  run_decided (clock page ms) ClockBack = dec_lt _ _
  run_decided (clock page ms) FewCells = never
  run_decided (clock page ms) NotMailbox = never
  run_decided (clock page ms) NoRoom = never
  run_decided (clock page ms) Quiet = never
  run_decided (turn cells page) FewCells = dec_lt _ _
  run_decided (turn cells page) ShortPage = dec_lt _ _
  run_decided (turn cells page) LongTrace = dec_lt _ _
  run_decided (turn cells page) Quiet = is_empty _
  run_decided (turn cells page) NotMailbox = never
  run_decided (turn cells page) NoRoom = never
  run_decided (turn cells page) ClockBack = never
  run_decided look x = never

  -- the one refusal of its literal that a call might have
  pub record LiteralRefusal (c : Call) : Type 0 where
    pub fault : LiteralFault
    pub decided : Dec (Describes w ρ c (Message (InPost fault)))
    pub only : (f : MessageFault) → Describes w ρ c (Message f) → f ≡ InPost fault

  no_refusal : (c : Call) → ((f : MessageFault) → Describes w ρ c (Message f) → ⊥) → LiteralRefusal c
  no_refusal c none = record { fault = record { at = 0 }; decided = no (none (InPost (record { at = 0 }))); only = λ f d. absurd (none f d) }

  post_refusal : (cells page p : ℕ) (bs : List ℕ) → ReadOrRefused w bs → LiteralRefusal (post cells page p bs)
  post_refusal cells page p bs (Ok m, e) = no_refusal (post cells page p bs) none
    where
      none : (f : MessageFault) → Describes w ρ (post cells page p bs) (Message f) → ⊥
      none (InPost f) d = d.0 m e
      none (InScript i f) d = d
  post_refusal cells page p bs (Err f, d) = record { fault = f; decided = yes d; only = λ g e. message_once w ρ (post cells page p bs) g (InPost f) e d }

  literal_refusal : (c : Call) → Known w c → LiteralRefusal c
  unfolding no_refusal post_refusal
  literal_refusal (post cells page p bs) known = post_refusal cells page p bs known
  literal_refusal (clock page ms) known = no_refusal (clock page ms) (λ f d. d)
  literal_refusal (turn cells page) known = no_refusal (turn cells page) (λ f d. d)
  literal_refusal look known = no_refusal look (λ f d. d)

  -- no other refusal describes a state
  pub covered : (c : Call) (l : LiteralRefusal c) (e : CallFault) → Describes w ρ c e → Memᴰ e (every l.fault)
  covered c l (Run x) d = run_listed l.fault x
  covered c l (Message e) d = there_listed (every l.fault) 4 _ (ap (λ x. Some (Message x)) (sym (l.only e d)))

  -- what becomes of a call, computed
  unfoldable pub verdict : (c : Call) → Known w c → Verdict w ρ c
  unfolding first_of run_decided literal_refusal
  verdict c known =
      let l = literal_refusal c known in
      first_of w ρ c 0 (every l.fault) (every_rises l.fault)
      (run_decided c FewCells, (run_decided c ShortPage, (run_decided c LongTrace, (run_decided c NotMailbox, (l.decided, (run_decided c NoRoom, (run_decided c ClockBack, (run_decided c Quiet, tt))))))))
      (covered c l)
