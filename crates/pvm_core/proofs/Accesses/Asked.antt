-- The mapper is asked whether a page may be written.
use Rattle.std.proofs.Common.{◌≡◌, sym, subst}
use Rattle.std.specs.Prelude.{Result, Err}
use Rattle.vm_ids.specs.declared.numbers.PageNo.{PageNo}
use Rattle.vm_ids.specs.declared.refusal.Refusal.TheVariants as refusals
use Rattle.vm_ids.specs.declared.reply.FaultAt.{FaultAt}
use Rattle.vm_ids.specs.declared.reply.FaultAt.TheVariants as faults
use Rattle.vm_ids.specs.declared.reply.Trouble.{Trouble}
use Rattle.vm_ids.specs.declared.reply.Trouble.TheVariants as troubles
use Rattle.local_cache.specs.Arena.{Arena}
use Rattle.residency.specs.declared.miss.Miss.{Miss}
use Rattle.residency.specs.declared.miss.Miss.TheVariants.{Pull, Victim}
use Rattle.pvm_core.specs.Access.{OnNoAccess}
use Rattle.segment_ops.specs.Access.{GrantsStay}
use Rattle.pvm_core.specs.Pieces.{fault_at}

-- what holds whatever is answered
pub on_no_access : (r : Result (Unit {0}) Trouble) (P : Type 0) → P → OnNoAccess r P
on_no_access (Err (troubles.Refused refusals.WriteDenied)) P p = p
on_no_access (Err (troubles.Mapper (faults.Access page))) P p = p
on_no_access r P p = tt

-- a page that can't be brought in doesn't tell of it
missed_access : (P : Type 0) (miss : Miss) (page : PageNo) → OnNoAccess (Err (troubles.Mapper (fault_at miss page))) P
missed_access P Pull page = tt
missed_access P Victim page = tt

pub missed_by : (P : Type 0) (fault : FaultAt) (miss : Miss) (page : PageNo) → fault ≡ fault_at miss page → OnNoAccess (Err (troubles.Mapper fault)) P
missed_by P fault miss page is = subst (λ (f : FaultAt). OnNoAccess (Err (troubles.Mapper f)) P) (sym is) (missed_access P miss page)

-- the grants are those of the tables
pub same_tables : (a b : Arena) → b.caches ≡ a.caches → GrantsStay a b
same_tables a b same = subst (λ ts. GrantsStay a (record a { caches = ts })) (sym same) (λ cache page e. e)

-- nothing was asked in vain
pub none_asked : (r : Result (Unit {0}) Trouble) (P : Type 0) → OnNoAccess r ⊥ → OnNoAccess r P
none_asked (Err (troubles.Refused refusals.WriteDenied)) P none = absurd none
none_asked (Err (troubles.Mapper (faults.Access page))) P none = absurd none
none_asked r P none = tt
