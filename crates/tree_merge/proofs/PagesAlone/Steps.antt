-- A step that did one page alone, or many at once.
use Rattle.std.proofs.Common.{◌≡◌, ℕ, false, leb, refl, sym, ap, ◌∙◌, inl, inr, arith}
use Rattle.vm_ids.specs.declared.command.Extent.{Extent}
use Rattle.vm_ids.specs.declared.command.Span.{Span}
use Rattle.vm_ids.specs.Forest.Commands.{copy_pages, small_copy}
use Rattle.local_cache.specs.Arena.{Arena}
use Rattle.local_cache.specs.Reading.{forest_of}
use Rattle.tree_merge.specs.declared.released.Released.{Released}
use Rattle.tree_merge.specs.declared.released.Released.TheVariants.{Nothing}
use Rattle.tree_merge.specs.Copying.{page_after, span_pairs_after}
use Rattle.tree_merge.specs.Stepping.{IsCopiedAlone, IsCopiedAtOnce, IsCopyStep, IsRetireStep, IsRetiredAlone}
use Rattle.tree_merge.proofs.PagesAlone.Copied.{copied_room, copied_rule, copied_sizes}
use Rattle.tree_merge.proofs.PagesAlone.Retired.{alone_room, alone_sizes}

pub retired_one : (a b : Arena) (extent : Extent) (done : ℕ) (r : Released) → IsRetiredAlone a b extent.cache (page_after extent.first done) r → IsRetireStep a b extent done (record { pages = 1; released = r })
retired_one a b extent done r one = record {
  forest = one.forest;
  sound = one.sound;
  sizes = alone_sizes a b extent.cache (page_after extent.first done) r one;
  room = alone_room a b extent.cache (page_after extent.first done) r one;
  how = inr (refl, one);
}

pub copied_one : (a b : Arena) (span : Span) (done : ℕ) (r : Released) → IsCopiedAlone (leb span.pages small_copy) a b span.to (page_after span.to_page done) span.from (page_after span.from_page done) r
    → IsCopyStep a b span done (record { pages = 1; released = r })
copied_one a b span done r one = record {
  forest = copied_rule a b span.to (page_after span.to_page done) span.from (page_after span.from_page done) (leb span.pages small_copy) r one;
  sound = one.sound;
  sizes = copied_sizes a b span.to (page_after span.to_page done) span.from (page_after span.from_page done) (leb span.pages small_copy) r one;
  room = copied_room a b span.to (page_after span.to_page done) span.from (page_after span.from_page done) (leb span.pages small_copy) r one;
  how = inr (refl, one);
}

-- and one that copied many at once
pub copied_all : (a b : Arena) (span : Span) (done count : ℕ) → leb span.pages small_copy ≡ false → IsCopiedAtOnce a b span done count → IsCopyStep a b span done (record { pages = count; released = Nothing })
copied_all a b span done count large all = record {
  forest = all.forest ∙ ap (λ t. copy_pages t (span_pairs_after span done count) (forest_of a)) (sym large);
  sound = all.sound;
  sizes = all.sizes;
  room = omega (arith, all.room);
  how = inl (refl, large, all);
}
