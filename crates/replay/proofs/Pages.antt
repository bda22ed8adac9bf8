-- What a call writes has room in the shortest page that is accepted.
use Rattle.std.proofs.Common.{◌*◌, ◌≤◌, List, [], ◌∷◌, length, sym, ap, subst, inl, inr, arith}
use Rattle.std.specs.List.{AllByRecursion}
use Rattle.std.proofs.lemmas.List.{length-append}
use Rattle.message.specs.Literals.{longest_literal}
use Rattle.grammar.proofs.Parts.{all_last}
use Rattle.rows.specs.Scripts.{Within}
use Rattle.trace.specs.declared.record.Record.{Record}
use Rattle.trace.specs.Lines.{Proper, longest_line}
use Rattle.trace.proofs.Lengths.{lines_short}
use Rattle.rules.specs.Limits.{Limited}
use Rattle.rules.specs.States.{Setting}
use Rattle.rules.proofs.Pending.{most_records}
use Rattle.replay.specs.Policies.{Policy}
use Rattle.replay.specs.Replays.{Call, Answer, Replay, begin_replay, lines_of, Serves}
use Rattle.replay.specs.Laws.{FitsPage, PageLaw}
use Rattle.replay.proofs.Tracing.{replays_keep}
use Rattle.replay.proofs.Readable.{Adds, Sound, begins_sound, SameOrWrites, serves_writes, serves_adds, serves_sound}

module _ {M : Type 0} (w : Setting M) (short : (m : M) → length (w.messages.literal m) ≤ longest_literal) where
  lines_few : (rs : List (Record M)) → AllByRecursion Proper rs → length (lines_of w rs) ≤ longest_line * length rs
  lines_few [] h = omega arith
  lines_few (r ∷ rs) h = let a = lines_short w.messages.literal short r h.0 in let b = lines_few rs h.1 in rw length-append (omega arith)

  module _ {P : Type 0} (k : Policy P) (within : Within w.script) (lim : Limited w.script) where
    serves_fits : (ρ : Replay M P) (c : Call) (a : Answer) (ρ' : Replay M P) → Sound w ρ → Serves w k ρ c a ρ' → FitsPage a
    serves_fits ρ c a ρ' h s = go (serves_writes w k ρ c a ρ' s)
      where
        adds : Adds ρ ρ'
        adds = serves_adds w k ρ c a ρ' within lim h.0 s

        go : SameOrWrites w k ρ c a ρ' → FitsPage a
        go (inl x) = x.1
        go (inr y) =
            let proper = all_last Proper ρ.trace y.new (subst (AllByRecursion Proper) y.trace (adds.proper h.1)) in
            let few : length y.new ≤ most_records = omega (arith, ap length y.trace, length-append ρ.trace y.new, adds.few) in
            subst FitsPage (sym y.answer) (omega (arith, lines_few y.new proper))

pub page_law : (M P : Type 0) → PageLaw M P
page_law M P w within lim short k p calls answers ρ h =
    (replays_keep w k (Sound w) FitsPage (λ ρ c a ρ' i s. (serves_sound w k ρ c a ρ' within lim i s, serves_fits w short k within lim ρ c a ρ' i s)) (begin_replay w p) calls answers ρ (begins_sound w p) h).1
