-- No page of a process is locked.
use Rattle.std.proofs.Common.{◌≡◌, inl, inr, ◌==◌, ℕ, ◌+◌, ◌-◌, Bool, false, List, Option, Some, None, refl, ap, ◌∙◌, arith}
use Rattle.std.specs.Prelude.{◌&&◌, nat_le, nat_lt, slice_get}
use Rattle.interface_callers.proofs.Words.{Actor, Machine, Region, actor_of, is_locked_page, locks, locks_any}
use Rattle.interface_callers.proofs.Lists.{none_any, number_at}
use Rattle.mix_process.specs.Tying.{AreMapped, AreTied}
use Rattle.mix_process.specs.Tying.AreMapped.{none, more}
use Rattle.mix_process.specs.declared.mix.Image.{Image}
use Rattle.mix_process.specs.declared.process.Part.{Part}
use Rattle.mix_process.specs.declared.process.Process.{Process}
use Rattle.mix_process.proofs.Ties.Clearing.{inserted_one, run_regions}

region_unlocked : {parts : List Part} {regions : Actor} → AreMapped parts regions → (k : ℕ) (x : Region) → slice_get regions k ≡ Some x → x.locked ≡ false
region_unlocked none k x e = absurd (cc e)
region_unlocked (more before rs p r rest is) k x e = elim (inserted_one r rs k x e) [
  | inl same ↦ ap (λ (r : Region). r.locked) same ∙ is.unlocked
  | inr f ↦ region_unlocked rest f.0 x f.1
]

pub never_locked : (m : Machine) (processes : ℕ → Option Process) (spare : ℕ → Type 0) (images : List Image) → AreTied m processes spare images → (cache page : ℕ) → is_locked_page m cache page ≡ false
never_locked m processes spare images t cache page = none_any (locks_any cache page) m.actors by_actor
  where
    by_region : (i : ℕ) (regions : Actor) → slice_get m.actors i ≡ Some (Some regions) → (k : ℕ) (r : Region) → slice_get regions k ≡ Some r → locks cache page r ≡ false
    by_region i regions e k r f =
        let at : actor_of m (i + 1) ≡ Some regions = number_at m.actors (i + 1) (Some regions) (omega arith) (ap (slice_get m.actors) (let g : i + 1 - 1 ≡ i = omega arith in g) ∙ e) in
        let whose = t.no_more_actors (i + 1) regions at in
        let run = t.run whose.0 whose.1 whose.2 in
        let both : Some run.regions ≡ Some regions = run_regions m whose.1 run (i + 1) regions whose.3 at in
        let same : run.regions ≡ regions = cc in
        ap (λ (b : Bool). b && r.cache == cache && nat_le r.offset page && nat_lt page (r.offset + r.pages)) (region_unlocked run.mapped k r (ap (λ (rs : Actor). slice_get rs k) same ∙ f))

    by_actor : (i : ℕ) (o : Option Actor) → slice_get m.actors i ≡ Some o → locks_any cache page o ≡ false
    by_actor i None e = refl
    by_actor i (Some regions) e = none_any (locks cache page) regions (by_region i regions e)
