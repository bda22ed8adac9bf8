-- What a checked script holds.
use Rattle.std.specs.Prelude.{◌≡◌, ℕ, List, [], ◌∷◌, IfOk, Ok, Err, vec_items, codes, Result}
use Rattle.rows.specs.Scripts.{Script, ScriptOf}
use Rattle.rows.specs.Rows.{Holds}
use Rattle.script.specs.declared.checked.Checked.{Checked}
use Rattle.script.specs.declared.fault.Fault.{Fault}
use Rattle.script.specs.Refusals.{Verdict}

-- the bytes, or the script of a new one
abbrev pub or_new : List ℕ → List ℕ
or_new [] = codes "(task 0)"
or_new (b ∷ bs) = b ∷ bs

abbrev pub checked_text : {M : Type 0} → Checked M → List ℕ
checked_text t = or_new (vec_items t.text)

-- it keeps a copy of the text, and its rows hold the script that the text is
pub record Means {M : Type 0} (literal : M → List ℕ) (text : List ℕ) (t : Checked M) : Type 0 where
  pub copy : checked_text t ≡ text
  pub script : Script M
  pub of_text : ScriptOf literal text script
  pub held : Holds t.rows script

-- the table after a check: the text's script where it was accepted, and `(task 0)` where it was not
abbrev pub Leaves : {M T : Type 0} → (M → List ℕ) → List ℕ → Result T Fault → Checked M → Type 0
Leaves literal text (Ok x) t = Means literal text t
Leaves literal text (Err f) t = Means literal (codes "(task 0)") t

-- what reading a text answers
pub record Answers {M : Type 0} (literal : M → List ℕ) (text : List ℕ) (r : Result (Checked M) Fault) : Type 0 where
  pub verdict : Verdict literal text r
  pub means : IfOk r (Means literal text)
