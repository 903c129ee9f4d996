-- A fact of each answer of a row, from the fact of its refusals and of its end; and which of them
-- it is.
use Rattle.std.proofs.Common.{◌≡◌, Bool, true, false, Option, Some, None, refl}
use Rattle.interface_callers.proofs.Words.{Refusal}
use Rattle.transit_ipc.specs.Answering.{Answered, refuse, unless, with_some}
use Rattle.transit_ipc.specs.PortMachine.{PortMachine}

unless_at : (P : Answered → Type 0) (b bad : Bool) (r : Refusal) (m : PortMachine) (go : Answered) → b ≡ bad → P (refuse m r) → (b ≡ false → P go) → P (unless bad r m go)
unfolding unless
unless_at P b true r m go e refused goes = refused
unless_at P b false r m go e refused goes = goes e

pub each_unless : (P : Answered → Type 0) (bad : Bool) (r : Refusal) (m : PortMachine) (go : Answered) → P (refuse m r) → (bad ≡ false → P go) → P (unless bad r m go)
each_unless P bad r m go refused goes = unless_at P bad bad r m go refl refused goes

some_at : {A : Type 0} (P : Answered → Type 0) (o found : Option A) (r : Refusal) (m : PortMachine) (go : A → Answered) → o ≡ found → P (refuse m r) → ((x : A) → o ≡ Some x → P (go x)) → P (with_some found r m go)
unfolding with_some
some_at P o None r m go e refused goes = refused
some_at P o (Some x) r m go e refused goes = goes x e

pub each_some : {A : Type 0} (P : Answered → Type 0) (o : Option A) (r : Refusal) (m : PortMachine) (go : A → Answered) → P (refuse m r) → ((x : A) → o ≡ Some x → P (go x)) → P (with_some o r m go)
each_some P o r m go refused goes = some_at P o o r m go refl refused goes

-- Which it is

pub refused_where : (bad : Bool) (r : Refusal) (m : PortMachine) (go : Answered) → bad ≡ true → unless bad r m go ≡ refuse m r
unfolding unless
refused_where true r m go e = refl
refused_where false r m go e = absurd (cc e)

pub goes_where : (bad : Bool) (r : Refusal) (m : PortMachine) (go : Answered) → bad ≡ false → unless bad r m go ≡ go
unfolding unless
goes_where false r m go e = refl
goes_where true r m go e = absurd (cc e)
