use Rattle.std.proofs.Common.{◌+◌, [], length, refl, sym, ap, subst, ◌∙◌, arith}
use Rattle.std.specs.Prelude.{count_by, is_some}
use Rattle.std.specs.List.{All}
use Rattle.std.proofs.lemmas.List.Elements.{All-nil, All-same}
use Rattle.regions.specs.AddressSpace.{AddressSpace}
use Rattle.contexts.specs.Actors.{is_full}
use Rattle.contexts.specs.Counting.{times_mapped}
use Rattle.contexts.specs.Layout.{AllStartAs, IsKept, StartsAs, regions_in}
use Rattle.contexts.proofs.Owners.{IsFor}
use Rattle.contexts.proofs.Once.{AreOnce, once_none}
use Rattle.contexts.proofs.Places.{Numbered, numbered_more}
use Rattle.contexts.proofs.Sound.{sound_still}
use Rattle.contexts.proofs.Living.{few_living, more_living}
use Rattle.contexts.proofs.Counted.{made_times}
use Rattle.contexts.proofs.contexts.Contexts.make.Goals as goal

pub overflow_add-self : goal.overflow_add-self
overflow_add-self c =
    let i = c.self.inside in
    let free = ap is_full c.self.view_is ∙ sym c.is_full.ensures ∙ c.if-is_full.false in
    omega (arith, few_living i.page i.living i.actors.items (length i.owners.items) c.self.invariant.living free)

pub invariant_of-self : goal.invariant_of-self
invariant_of-self c = sound_still c.self.inside _ c.self.invariant refl refl c.in_err-push.ensures.items refl refl (λ n. refl)

pub invariant_of-self-2 : goal.invariant_of-self-2
invariant_of-self-2 c =
    let i = c.self.inside in
    let k = c.self.invariant in
    let s : AddressSpace = c.new.result in
    let n = length i.actors.items + 1 in
    let owners = i.owners.items in
    let items = c.in_ok-push.ensures.items in
    let counted = k.living in
    let new : IsKept i.page owners n s = record {
      page_bytes = c.new.ensures.page;
      owned = All-same (IsFor owners n) s.regions [] c.new.ensures.regions (All-nil (IsFor owners n));
      once = subst AreOnce (sym c.new.ensures.regions) once_none;
    } in
    record {
      some = k.some;
      most = k.most;
      living = omega (arith, counted, more_living i.actors.items s, ap (count_by is_some) items);
      few = k.few;
      mapped = λ m. k.mapped m ∙ sym (made_times m i.actors.items s c.new.ensures.regions) ∙ ap (λ xs. times_mapped m (regions_in xs)) (sym items);
      kept = subst (Numbered (IsKept i.page owners)) (sym items) (numbered_more (IsKept i.page owners) i.actors.items s new k.kept);
      starts = k.starts;
      started = subst (AllStartAs i.starts.items) (sym items)
          (numbered_more (λ _ t. All (StartsAs i.starts.items) t.regions) i.actors.items s
          (All-same (StartsAs i.starts.items) s.regions [] c.new.ensures.regions (All-nil (StartsAs i.starts.items))) k.started);
    }
