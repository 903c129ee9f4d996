-- How a mapping is refused.
use Rattle.std.specs.Prelude.{ℕ, ◌+◌, ◌*◌, ◌%◌, ◌^◌, ◌==◌, not, if◌then◌else◌, nat_le, nat_lt, Option, Some, None}
use Rattle.std.specs.List.{list_any}
use Rattle.vm_ids.specs.declared.command.Mapping.{Mapping}
use Rattle.vm_ids.specs.declared.refusal.Refusal.{Refusal}
use Rattle.vm_ids.specs.declared.refusal.Refusal.TheVariants.{NoActor, NoCache, Unaligned, BadAddress, OutOfCache, Overlap, TooMany}
use Rattle.vm_model.specs.Answering.{overlaps}
use Rattle.vm_model.specs.Machine.{Actor}
use Rattle.vm_model.specs.declared.limits.TheConstants.{MOST_MADE}
use Rattle.contexts.specs.Actors.{Actors}

-- where the actor has these regions and the cache so many pages, or they are not there
abbrev pub map_refusal : Actors → Option Actor → Option ℕ → Mapping → Option Refusal
map_refusal a None count p = Some NoActor
map_refusal a (Some regions) None p = Some NoCache
map_refusal a (Some regions) (Some n) p =
    if not (p.address % a.page_bytes == 0) then Some Unaligned
    else if nat_lt (2 ^ 48) (p.address + a.page_bytes * p.extent.pages) then Some BadAddress
    else if nat_lt n (p.extent.first.0 + p.extent.pages) then Some OutOfCache
    else if list_any (overlaps a.page_bytes p.address p.extent.pages) regions then Some Overlap
    else if nat_le MOST_MADE a.regions_made then Some TooMany
    else None
