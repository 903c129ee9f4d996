-- What is pushed to segments is what nodes read: over two moments, where a push fails, and where
-- own pages are pushed.
use Rattle.std.proofs.Common.{◌≡◌, ℕ, ◌≤◌, Bool, true, false, is_some, List, [], ◌∷◌, Option, Some, None, refl, sym, ap, ◌∙◌, arith}
use Rattle.std.specs.List.{AllByRecursion}
use Rattle.std.specs.Option.{IsSome}
use Rattle.std.specs.Prelude.{option_map}
use Rattle.vm_ids.specs.Counting.{MapperCounts}
use Rattle.vm_ids.specs.Forest.Shape.{IsWellShaped}
use Rattle.vm_ids.specs.Forest.Values.IsValue.{itself}
use Rattle.vm_ids.specs.Held.{Held, Segments, segments_of}
use Rattle.vm_ids.specs.declared.numbers.NodeId.{NodeId}
use Rattle.vm_ids.proofs.Forest.Reading.{value-IsValue}
use Rattle.local_cache.specs.declared.home.Home.{Home}
use Rattle.local_cache.specs.Arena.{HasNode, find}
use Rattle.local_cache.specs.Home.{home_of}
use Rattle.local_cache.specs.Own.{is_absent, own_of}
use Rattle.local_cache.specs.Reading.{forest_of}
use Rattle.local_cache.specs.Sound.{IsSound}
use Rattle.local_cache.proofs.Names.Homes.{home_none}
use Rattle.residency.specs.Causes.{Later}
use Rattle.residency.specs.Pushing.{MayPush, TellsOn, put_home, put_homes}
use Rattle.residency.specs.StoreForest.{store_forest}
use Rattle.residency.specs.World.{World, own_page}
use Rattle.residency.proofs.Pushes.PushedPages.{all_then, tells_over}
use Rattle.fault_path.proofs.Rules.Heirs.{has_own}
use Rattle.fault_path.proofs.Calls.Kept.{store_page, store_shaped}
use Rattle.segment_ops.specs.Pushing.{MayPushValue, TellsValues, value_at}

-- a push failed then
pub values_failed : (a b : World) (c d e : MapperCounts) (now : Option Held) → now ≡ b.told → TellsValues a b c d → d.pushes ≤ e.pushes → {v : World} → v.told ≡ now → TellsValues a v c e
values_failed a b c d e now same t later told = record {
  pushed = t.pushed;
  may = t.may;
  segments = ap segments_of (told ∙ same) ∙ t.segments;
  counted = λ below. (let first = t.counted (omega (arith, later, below)) in omega (arith, first, later));
}

-- From one world to the next no node reads anything else, and homes stay.
pub record ReadsOn (a b : World) : Type 0 where
  pub values : (n : NodeId) → value_at b n ≡ value_at a n
  pub homes : (n : NodeId) → home_of b.caches n ≡ home_of a.caches n

pub values_then : (a b : World) (reads : ReadsOn a b) (v : World) (c d e : MapperCounts) → Later d e → TellsValues a b c d → TellsValues b v d e → TellsValues a v c e
values_then a b reads = tells_over a b reads.homes (value_at a) (value_at b) reads.values (MayPushValue a) (MayPushValue b) (λ n home may. home may)

-- an own page that is pushed is what its node reads
module _ (w : World) (sound : IsSound w.caches) (shaped : IsWellShaped (forest_of w.caches)) where
  pub held_home : (n : NodeId) (home : Home) → home_of w.caches n ≡ Some home → HasNode w.caches n
  held_home n home e = go (is_some (find w.caches n)) refl
    where
      none_of : (b : Bool) → is_some (find w.caches n) ≡ b → b ≡ false → find w.caches n ≡ None
      none_of b e f = no_cell (find w.caches n) (e ∙ f)
        where
          no_cell : {X : Type 0} (o : Option X) → is_some o ≡ false → o ≡ None
          no_cell None e = refl
          no_cell (Some x) e = absurd (cc e)

      go : (b : Bool) → is_some (find w.caches n) ≡ b → is_some (find w.caches n) ≡ true
      go true e = e
      go false f = absurd (let none = home_none w.caches n (none_of false f refl) in cc (e, none))

  pub home_held : (n : NodeId) → IsSome (home_of w.caches n) → HasNode w.caches n
  home_held n some = go (home_of w.caches n) refl some
    where
      go : (o : Option Home) → home_of w.caches n ≡ o → IsSome o → HasNode w.caches n
      go None e some = absurd (cc some)
      go (Some home) e some = held_home n home e

  own_value : (n : NodeId) → HasNode w.caches n → (o : Option (Option (List ℕ))) → own_page w n ≡ o → is_some o ≡ true → value_at w n ≡ own_page w n
  own_value n held None e some = absurd (cc some)
  own_value n held (Some page) e some =
      let linked = store_shaped w sound shaped in
      value-IsValue (store_forest w) linked.linked (itself (store_page w sound n held ∙ e)) ∙ sym e

  pub own_is_value : (n : NodeId) → HasNode w.caches n → is_absent (own_of w.caches n) ≡ false → value_at w n ≡ own_page w n
  own_is_value n held some = own_value n held (own_page w n) refl (has_own w n some)

  pushed_values : (ns : List NodeId) (s : Option Segments) → AllByRecursion (MayPush w) ns → put_homes w.caches (own_page w) ns s ≡ put_homes w.caches (value_at w) ns s
  pushed_values [] s all = refl
  pushed_values (n ∷ ns) s all =
      let same : value_at w n ≡ own_page w n = own_is_value n (held_home n all.0.at.home all.0.at.is) all.0.own_page in
      pushed_values ns (option_map (put_home w.caches (own_page w) n) s) all.1
      ∙ ap (λ (o : Option (Option (List ℕ))). put_homes w.caches (value_at w) ns (option_map (put_home w.caches (λ _. o) n) s)) (sym same)

  pub tells_values : (v : World) (c d : MapperCounts) → TellsOn w v c d → TellsValues w v c d
  tells_values v c d t = record {
    pushed = t.pushed;
    may = all_then (MayPush w) (MayPushValue w) t.pushed (λ n may. may.at) t.may;
    segments = t.segments ∙ pushed_values t.pushed (segments_of w.told) t.may;
    counted = t.counted;
  }
