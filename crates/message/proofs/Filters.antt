-- What `filter` leaves of an optional value, where its test is known.
use Rattle.std.proofs.Common.{◌≡◌, Bool, true, false, Some, None, Option, ap, ◌∙◌}
use Rattle.std.specs.Bool.{then_some}
use Rattle.std.specs.Option.{MatchOption}

pub all_kept : {X : Type 0} {F : X → Bool → Type 0} (v r : Option X) → ((x : X) (t : Bool) → F x t → t ≡ true) → MatchOption v (r ≡ None) (λ x. (t : Bool) × F x t × (r ≡ then_some t x)) → r ≡ v
all_kept None r test e = e
all_kept (Some x) r test (t, ft, e) = e ∙ ap (λ u. then_some u x) (test x t ft)

pub none_kept : {X : Type 0} {F : X → Bool → Type 0} (v r : Option X) → ((x : X) (t : Bool) → F x t → t ≡ false) → MatchOption v (r ≡ None) (λ x. (t : Bool) × F x t × (r ≡ then_some t x)) → r ≡ None
none_kept None r test e = e
none_kept (Some x) r test (t, ft, e) = e ∙ ap (λ u. then_some u x) (test x t ft)
