-- A fact of each answer of a row, from the fact of its refusals and of its end.
use Rattle.std.proofs.Common.{◌≡◌, Bool, true, false, Option, Some, None, refl}
use Rattle.std.specs.Prelude.{Result, Ok, Err}
use Rattle.interface_callers.proofs.Words.{Refusal}
use Rattle.mix_process.specs.ProcessMachine.{ProcessMachine}
use Rattle.mix_process.specs.Answering.{Answered, refuse, unless, with_some, with_ok}

unless_at : (P : Answered → Type 0) (b bad : Bool) (r : Refusal) (m : ProcessMachine) (go : Answered) → b ≡ bad → P (refuse m r) → (b ≡ false → P go) → P (unless bad r m go)
unfolding unless
unless_at P b true r m go e refused goes = refused
unless_at P b false r m go e refused goes = goes e

pub each_unless : (P : Answered → Type 0) (bad : Bool) (r : Refusal) (m : ProcessMachine) (go : Answered) → P (refuse m r) → (bad ≡ false → P go) → P (unless bad r m go)
each_unless P bad r m go refused goes = unless_at P bad bad r m go refl refused goes

some_at : {A : Type 0} (P : Answered → Type 0) (o found : Option A) (r : Refusal) (m : ProcessMachine) (go : A → Answered) → o ≡ found → P (refuse m r) → ((x : A) → o ≡ Some x → P (go x)) → P (with_some found r m go)
unfolding with_some
some_at P o None r m go e refused goes = refused
some_at P o (Some x) r m go e refused goes = goes x e

pub each_some : {A : Type 0} (P : Answered → Type 0) (o : Option A) (r : Refusal) (m : ProcessMachine) (go : A → Answered) → P (refuse m r) → ((x : A) → o ≡ Some x → P (go x)) → P (with_some o r m go)
each_some P o r m go refused goes = some_at P o o r m go refl refused goes

ok_at : {A : Type 0} (P : Answered → Type 0) (o found : Result A Refusal) (m : ProcessMachine) (go : A → Answered) → o ≡ found → ((r : Refusal) → P (refuse m r)) → ((x : A) → o ≡ Ok x → P (go x)) → P (with_ok found m go)
unfolding with_ok
ok_at P o (Err r) m go e refused goes = refused r
ok_at P o (Ok x) m go e refused goes = goes x e

pub each_ok : {A : Type 0} (P : Answered → Type 0) (o : Result A Refusal) (m : ProcessMachine) (go : A → Answered) → ((r : Refusal) → P (refuse m r)) → ((x : A) → o ≡ Ok x → P (go x)) → P (with_ok o m go)
each_ok P o m go refused goes = ok_at P o o m go refl refused goes
