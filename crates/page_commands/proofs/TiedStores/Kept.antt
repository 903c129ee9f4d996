-- What each call keeps, one call after the other.
use Rattle.std.proofs.Common.{◌≡◌, true, false, List, [], get_or, Some, None, IsSome, refl, sym, ap, ◌∙◌, inl}
use Rattle.vm_ids.specs.declared.node_name.NodeName.{NodeName}
use Rattle.vm_ids.specs.Forest.NameLists.{◌∈◌}
use Rattle.frame_pool.specs.Pool.{is_pinned}
use Rattle.global_map.specs.Pairs.{node_of}
use Rattle.vm_ids.specs.declared.numbers.NodeId.{NodeId}
use Rattle.local_cache.specs.Arena.{Arena}
use Rattle.local_cache.specs.Home.{home_of}
use Rattle.local_cache.specs.Reading.{name_of}
use Rattle.local_cache.specs.Sound.{IsSound}
use Rattle.local_cache.proofs.Tables.Sizes.{sizes_same, sizes_then}
use Rattle.residency.specs.declared.store.Store.{Store}
use Rattle.residency.specs.World.{IsTied, World, world}
use Rattle.page_commands.specs.Homes.{IsUnclean}
use Rattle.page_commands.specs.Steps.{ForAnyMapper, GivesBack, IsStoreTied, IsUnpinned, Releases, PinnedStayNamed}
use Rattle.page_commands.proofs.TiedStores.Homes.{homes_then, named_kept, unclean_then, unlisted}
use Rattle.page_commands.proofs.FreedFrames.Freed.{bound_was, drops_then, same_freed}

-- Nothing happened
pub gives_none : (w : World) → IsTied w → GivesBack w w
gives_none w fit = record {
  tied = fit;
  held = λ f h. h;
  bytes = refl;
  pinned = λ f pin. record { pinned = pin; bytes = refl; node = refl };
  pins = refl;
  slots = λ k h. h;
  capacity = refl;
  frames = refl;
  page = refl;
}

pub kept_none : (xs : List NodeName) (s : Store) (a : Arena) → IsSound a → IsStoreTied s a → Releases xs s a s a
kept_none xs s a sound tied = record {
  gives_back = λ told size fit. gives_none (world told size a s) fit;
  tables = same_freed s s refl refl;
  sound = sound;
  tied = tied;
  pinned = λ f n pin at. refl;
  sizes = sizes_same a a refl;
  homes = named_kept xs a a (λ m some. refl) (λ m some. inl refl) (λ cache page. refl) (λ cache page. refl);
}

-- One after the other
pub gives_then : (u v w : World) → GivesBack u v → GivesBack v w → GivesBack u w
gives_then u v w f g = record {
  tied = g.tied;
  held = λ k h. f.held k (g.held k h);
  bytes = g.bytes ∙ f.bytes;
  pinned = λ k pin.
      let one = f.pinned k pin in
      let two = g.pinned k one.pinned in
      record { pinned = two.pinned; bytes = two.bytes ∙ one.bytes; node = two.node ∙ one.node };
  pins = g.pins ∙ f.pins;
  slots = λ k h. f.slots k (g.slots k h);
  capacity = g.capacity ∙ f.capacity;
  frames = g.frames ∙ f.frames;
  page = g.page ∙ f.page;
}

pub back_then : (s : Store) (a : Arena) (t : Store) (b : Arena) (u : Store) (c : Arena) → ForAnyMapper s a t b GivesBack → ForAnyMapper t b u c GivesBack → ForAnyMapper s a u c GivesBack
back_then s a t b u c f g told size fit = let one = f told size fit in gives_then (world told size a s) (world told size b t) (world told size c u) one (g told size one.tied)

-- the nodes of pinned frames kept their names twice
pub named_then : (s : Store) (a : Arena) (t : Store) (b c : Arena) → ForAnyMapper s a t b GivesBack → IsStoreTied s a → PinnedStayNamed s a b → PinnedStayNamed t b c → PinnedStayNamed s a c
named_then s a t b c back tied f g k n pin at =
    let one = (back None None tied).pinned k pin in
    g k n one.pinned (one.node ∙ at) ∙ f k n pin at

pub kept_then : (xs ys zs : List NodeName) (s : Store) (a : Arena) (t : Store) (b : Arena) (u : Store) (c : Arena) → IsStoreTied s a → ((x : NodeName) → x ∈ xs → x ∈ zs) → ((x : NodeName) → x ∈ ys → x ∈ zs) → Releases xs s a t b → Releases ys t b u c → Releases zs s a u c
kept_then xs ys zs s a t b u c tied first second f g = record {
  gives_back = back_then s a t b u c f.gives_back g.gives_back;
  tables = drops_then s t u (bound_was (world None None a s) (world None None b t) tied (f.gives_back None None tied)) (bound_was (world None None b t) (world None None c u) f.tied (g.gives_back None None f.tied)) f.tables g.tables;
  sound = g.sound;
  tied = g.tied;
  pinned = named_then s a t b c f.gives_back tied f.pinned g.pinned;
  sizes = sizes_then a b c f.sizes g.sizes;
  homes = homes_then xs ys zs a b c f.homes g.homes g.sizes first second;
}

-- where no page of a segment ceased to be one
pub kept_both : (s : Store) (a : Arena) (t : Store) (b : Arena) (u : Store) (c : Arena) → IsStoreTied s a → Releases [] s a t b → Releases [] t b u c → Releases [] s a u c
kept_both s a t b u c tied f g = kept_then [] [] [] s a t b u c tied (λ x i. i) (λ x i. i) f g

-- where none of the list is there still
pub kept_unlisted : (xs : List NodeName) (s : Store) (a : Arena) (t : Store) (b : Arena) → Releases xs s a t b → ((n : NodeId) → IsSome (home_of b n) → name_of b n ∈ xs → ⊥) → Releases [] s a t b
kept_unlisted xs s a t b kept none = record { gives_back = kept.gives_back; tables = kept.tables; sound = kept.sound; tied = kept.tied; pinned = kept.pinned; sizes = kept.sizes; homes = unlisted xs a b kept.homes none }

-- What is kept

-- a frame that is pinned was, and its node has its name
pub unpinned_by : (s : Store) (a : Arena) (t : Store) (b : Arena) (x : NodeName) → IsStoreTied s a → ForAnyMapper s a t b GivesBack → PinnedStayNamed s a b → IsUnpinned s a x → IsUnpinned t b x
unpinned_by s a t b x tied back named out f n pin at e =
    let was = back None None tied in
    let pinned : is_pinned s.frames f ≡ true = sym (ap (λ ps. get_or ps f false) was.pins) ∙ pin in
    let node : node_of s.map f ≡ Some n = sym (was.pinned f pinned).node ∙ at in
    out f n pinned node (sym (named f n pinned node) ∙ e)

module _ (xs : List NodeName) (s : Store) (a : Arena) (t : Store) (b : Arena) (tied : IsStoreTied s a) (kept : Releases xs s a t b) where
  pub unpinned_kept : (x : NodeName) → IsUnpinned s a x → IsUnpinned t b x
  unpinned_kept x out = unpinned_by s a t b x tied kept.gives_back kept.pinned out

  pub unclean_kept : (x : NodeName) → (x ∈ xs → ⊥) → IsUnclean a x → IsUnclean b x
  unclean_kept x out was = unclean_then xs (world None None b t) a kept.tied kept.homes x out was
