-- Lines of scripts that have some of the commands of actors, and forms of their own besides.
use Rattle.std.proofs.Common.{◌≡◌, ℕ, Bool, true, false, List, length, Option, None, Some, Ok, Err, refl, nat_lt}
use Rattle.std.specs.Prelude.{option_and_then, ok_or, Result, if◌then◌else◌, IfOk, IfSome}
use Rattle.std.specs.Option.{option_or}
use Rattle.vm_ids.specs.declared.command.Command.{Command}
use Rattle.vm_ids.specs.declared.refusal.Refusal.{Refusal}
use Rattle.vm_ids.specs.declared.refusal.Refusal.TheVariants.{BadLine}
use Rattle.vm_model.specs.Asking.{IsWellFormed}
use Rattle.vm_model.specs.Run.{Read}
use Rattle.actor_script.specs.Words.{words_of}
use Rattle.actor_script.specs.Forms.{asked_by, command_of, form_of, form_with, shared_by}
use Rattle.actor_script.proofs.WellFormed.{form, read_form}

-- which commands such a script has, as what, and what else it has
module _ {C : Type 0} (has : Command → Bool) (plain : Command → C) (own : List (List ℕ) → Option C) where
  abbrev within : Bool → Option C → Result C Refusal
  within b o = if b then Err BadLine else ok_or o BadLine

  -- what is read of a line, of which this is the command of actors

  shared_read : (b : Bool) (o : Option Command) (p : Option C) (c : Command) → (let r : Read = if b then Err BadLine else ok_or o BadLine in r) ≡ Ok c → has c ≡ true → within b (option_or (option_and_then (shared_by has plain) o) p) ≡ Ok (plain c)
  shared_read true o p c read is = absurd (cc read)
  shared_read false None p c read is = absurd (cc read)
  shared_read false (Some d) p c read is = let e : d ≡ c = cc read in rw e (rw is refl)

  other_read : (b : Bool) (o : Option Command) (p : Option C) (c : Command) → (let r : Read = if b then Err BadLine else ok_or o BadLine in r) ≡ Ok c → has c ≡ false → within b (option_or (option_and_then (shared_by has plain) o) p) ≡ within b p
  other_read true o p c read is = refl
  other_read false None p c read is = refl
  other_read false (Some d) p c read is = let e : d ≡ c = cc read in rw e (rw is refl)

  none_read : (b : Bool) (o : Option Command) (p : Option C) (r : Refusal) → (let read : Read = if b then Err BadLine else ok_or o BadLine in read) ≡ Err r → within b (option_or (option_and_then (shared_by has plain) o) p) ≡ within b p
  none_read true o p r read = refl
  none_read false None p r read = refl
  none_read false (Some d) p r read = absurd (cc read)

  pub of_shared : (line : List ℕ) (c : Command) → command_of line ≡ Ok c → has c ≡ true → asked_by (form_with has plain own) line ≡ Ok (plain c)
  unfolding command_of
  of_shared line c read is = shared_read (nat_lt 256 (length line)) (form_of (words_of line)) (own (words_of line)) c read is

  pub of_other : (line : List ℕ) (c : Command) → command_of line ≡ Ok c → has c ≡ false → asked_by (form_with has plain own) line ≡ asked_by own line
  unfolding command_of
  of_other line c read is = other_read (nat_lt 256 (length line)) (form_of (words_of line)) (own (words_of line)) c read is

  pub of_none : (line : List ℕ) (r : Refusal) → command_of line ≡ Err r → asked_by (form_with has plain own) line ≡ asked_by own line
  unfolding command_of
  of_none line r read = none_read (nat_lt 256 (length line)) (form_of (words_of line)) (own (words_of line)) r read

  -- what is asked is well formed, where P says of such a command what that is

  module _ (P : C → Type 0) (shares : (c : Command) → has c ≡ true → IsWellFormed c → P (plain c)) (owns : (words : List (List ℕ)) → IfSome (own words) P) where
    one_is : (b : Bool) (c : Command) (p : Option C) → has c ≡ b → IsWellFormed c → IfSome p P → IfSome (option_or (let o : Option C = if b then Some (plain c) else None in o) p) P
    one_is true c p e h f = shares c e h
    one_is false c p e h f = f

    with_is : (o : Option Command) (p : Option C) → IfSome o IsWellFormed → IfSome p P → IfSome (option_or (option_and_then (shared_by has plain) o) p) P
    with_is None p h f = f
    with_is (Some c) p h f = one_is (has c) c p refl h f

    line_is : (b : Bool) (o : Option C) → IfSome o P → IfOk (within b o) P
    line_is true o h = tt
    line_is false o h = read_form P o h

    pub formed : (line : List ℕ) → IfOk (asked_by (form_with has plain own) line) P
    formed line =
        line_is (nat_lt 256 (length line)) _ (with_is (form_of (words_of line)) (own (words_of line)) (form (words_of line)) (owns (words_of line)))
