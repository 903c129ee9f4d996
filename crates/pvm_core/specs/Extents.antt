-- How pages of a cache that a segment is to name are refused.
use Rattle.std.specs.Prelude.{◌+◌, Bool, length, is_none, if◌then◌else◌, nat_lt, Option, Some, None}
use Rattle.vm_ids.specs.declared.command.Extent.{Extent}
use Rattle.vm_ids.specs.declared.refusal.Refusal.{Refusal}
use Rattle.vm_ids.specs.declared.refusal.Refusal.TheVariants.{Locked, NoCache, NotNamed, OutOfCache}
use Rattle.local_cache.specs.Arena.{Table}

-- where the cache has this table, or isn't live, and it is told whether a page is locked that no
-- locked region may cover
abbrev pub extent_refusal : Option Table → Bool → Extent → Option Refusal
extent_refusal None locked e = Some NoCache
extent_refusal (Some t) locked e =
    if is_none t.segment then Some NotNamed
    else if nat_lt (length t.pages) (e.first.0 + e.pages) then Some OutOfCache
    else if locked then Some Locked
    else None
