-- The state of a run.
use Rattle.std.specs.Prelude.{ℕ, List}
use Rattle.rows.specs.Scripts.{Script, Action}
use Rattle.rules.specs.declared.kind.BaseKind.{BaseKind}
use Rattle.rules.specs.declared.nack.Nack.{Nack}
use Rattle.rules.specs.Messages.{Messages}
use Rattle.rules.specs.Kinds.{Kind, Meaning}

-- what a run is of
pub record Setting (M : Type 0) : Type 0 where
  pub messages : Messages M
  pub kinds : BaseKind → Kind
  pub script : Script M

-- what a leaf waits for; a timeout by the time at which it is due
pub data Base (M : Type 0) : Type 0 where
  always : M → Base M
  send recv : ℕ → Base M
  due : ℕ → Base M
  nack : Base M

-- a leaf, with the wraps around it, innermost first, and the with-nacks of its sync that it lies in, by number
pub record Leaf (M : Type 0) : Type 0 where
  pub base : Base M
  pub wraps : List (Action M)
  pub above : List ℕ

pub data Wait (M : Type 0) : Type 0 where
  running : Wait M
  waiting : (sync : ℕ) → List (Leaf M) → Wait M

pub record Task (M : Type 0) : Type 0 where
  pub number : ℕ
  pub body : ℕ
  pub place : ℕ
  pub register : M
  pub wait : Wait M
  pub nack : Nack

-- the clock, what the kinds mean, the live tasks by rising number, and the last numbers given to a task and to a sync
pub record State (M : Type 0) : Type 0 where
  pub clock : ℕ
  pub means : BaseKind → Meaning M
  pub tasks : List (Task M)
  pub last_task : ℕ
  pub last_sync : ℕ
