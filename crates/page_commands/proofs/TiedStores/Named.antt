-- Which pages have homes: those of a cache that is named.
use Rattle.std.proofs.Common.{◌≡◌, true, false, Option, Some, None, IsSome, is_some, option_map, refl, sym, ap, ◌∙◌, inl}
use Rattle.std.specs.Prelude.{option_and_then}
use Rattle.vm_ids.specs.declared.node_name.NodeName.{NodeName}
use Rattle.vm_ids.specs.declared.node_name.NodeName.TheVariants.{Live}
use Rattle.vm_ids.specs.declared.numbers.CacheId.{CacheId}
use Rattle.vm_ids.specs.declared.numbers.PageNo.{PageNo}
use Rattle.vm_ids.specs.declared.numbers.SegId.{SegId}
use Rattle.local_cache.specs.declared.home.Home.{Home}
use Rattle.local_cache.specs.Arena.{Arena, Table, table_of}
use Rattle.local_cache.specs.Whole.{SameCaches}
use Rattle.local_cache.specs.Home.{home_named}
use Rattle.residency.specs.declared.store.Store.{Store}
use Rattle.residency.specs.World.{world}
use Rattle.page_commands.specs.Homes.{HasHome, IsUnclean, MayGo, is_named}
use Rattle.page_commands.specs.Steps.{IsStoreTied}
use Rattle.page_commands.proofs.TiedStores.Backed.{homeless}

abbrev home_in : PageNo → SegId → Home
home_in page s = record { segment = s; page = page }

no_home : (page : PageNo) (o : Option SegId) → is_some o ≡ false → option_map (home_in page) o ≡ None
no_home page None e = refl
no_home page (Some s) e = absurd (cc e)

has_home : (page : PageNo) (o : Option SegId) → is_some o ≡ true → IsSome (option_map (home_in page) o)
has_home page None e = absurd (cc e)
has_home page (Some s) e = refl

module _ (a : Arena) (cache : CacheId) where
  pub temporary_home : is_named a cache ≡ false → (page : PageNo) → home_named a.caches (Live cache page) ≡ None
  temporary_home out page = no_home page (option_and_then (λ table. table.segment) (table_of a cache.0)) out

  pub named_home : is_named a cache ≡ true → (page : PageNo) → HasHome a (Live cache page)
  named_home named page = has_home page (option_and_then (λ table. table.segment) (table_of a cache.0)) named

  -- no page of a temporary cache is one that a segment holds
  pub temporary_unclean : (s : Store) → IsStoreTied s a → is_named a cache ≡ false → (page : PageNo) → IsUnclean a (Live cache page)
  temporary_unclean s tied out page n named = homeless (world None None a s) n tied.backed (ap (home_named a.caches) named ∙ temporary_home out page)

by_segment : (o : Option Table) → is_some (option_and_then (λ (t : Table). t.segment) o) ≡ is_some (option_and_then (λ (s : Option SegId). s) (option_map (λ (t : Table). t.segment) o))
by_segment None = refl
by_segment (Some t) = refl

-- and is so still
module _ (a b : Arena) (same : SameCaches a b) (cache : CacheId) where
  pub named_same : is_named b cache ≡ is_named a cache
  named_same = by_segment (table_of b cache.0) ∙ ap (λ (o : Option (Option SegId)). is_some (option_and_then (λ s. s) o)) (same.segments cache.0) ∙ sym (by_segment (table_of a cache.0))

-- a node whose own page isn't one that its segment holds may be retired
pub unclean_may : (a : Arena) (x : NodeName) → IsUnclean a x → MayGo a x
unclean_may a x unclean = inl unclean
