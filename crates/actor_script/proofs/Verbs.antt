-- The forms of the two verbs that accesses have.
use Rattle.std.proofs.Common.{◌≡◌, ℕ, List, true, refl}
use Rattle.std.specs.Prelude.{bytes_eq, codes}
use Rattle.std.proofs.lemmas.Slice.Eq.{bytes_eq-Decides}
use Rattle.actor_script.specs.Forms.{verb_form, load_form, store_form}

pub is_load : (verb : List ℕ) (operands : List (List ℕ)) → bytes_eq verb (codes "load") ≡ true → verb_form verb operands ≡ load_form operands
unfolding verb_form
is_load verb operands e = let is : verb ≡ codes "load" = (bytes_eq-Decides verb (codes "load")).0 e in rw is refl

pub is_store : (verb : List ℕ) (operands : List (List ℕ)) → bytes_eq verb (codes "store") ≡ true → verb_form verb operands ≡ store_form operands
unfolding verb_form
is_store verb operands e = let is : verb ≡ codes "store" = (bytes_eq-Decides verb (codes "store")).0 e in rw is refl
