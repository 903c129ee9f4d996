-- Where each cache that was there stays as it was, the processes have what they had.
use Rattle.std.proofs.Common.{◌≡◌, ℕ, ◌+◌, ◌-◌, List, [], map, Option, Some, None, refl, sym, ap, ◌∙◌, arith}
use Rattle.std.specs.Prelude.{option_map, slice_get}
use Rattle.std.specs.Option.{option_map_or}
use Rattle.interface_callers.proofs.Words.{Cache, Machine, Page, cache_of, numbered}
use Rattle.interface_callers.proofs.Lists.{all_at, map_same, number_at}
use Rattle.mix_process.specs.Adding.{AreKept}
use Rattle.mix_process.specs.ProcessMachine as model
use Rattle.mix_process.specs.Seen.{cache_pages, image_seen, process_seen}
use Rattle.mix_process.specs.Tying.{AreTied, IsPart}
use Rattle.mix_process.specs.declared.mix.Image.{Image}
use Rattle.mix_process.specs.declared.process.Part.{Part}
use Rattle.mix_process.specs.declared.process.Process.{Process}
use Rattle.mix_process.proofs.Reading.PagePut.{process_same}
use Rattle.mix_process.proofs.Ties.NewCache.{part_cache}

pub numbered_at : {A : Type 0} (xs : List (Option A)) (k : ℕ) (x : A) → slice_get xs k ≡ Some (Some x) → numbered xs (k + 1) ≡ Some x
numbered_at xs k x e = number_at xs (k + 1) (Some x) (omega arith) (ap (slice_get xs) (let s : k + 1 - 1 ≡ k = omega arith in s) ∙ e)

module _ (m n : Machine) (table : List (Option Process)) (spare : ℕ → Type 0) (images : List Image) (t : AreTied m (numbered table) spare images) (kept : AreKept m n) where
  pub pages_kept : (k : ℕ) (c : Cache) → cache_of m k ≡ Some c → cache_pages n k ≡ cache_pages m k
  pages_kept k c e = ap (λ (o : Option Cache). option_map_or (λ (c : Cache). c.pages) o []) (kept k c e ∙ sym e)

  pub part_pages_kept : (k : ℕ) (p : Process) → numbered table k ≡ Some p → (j : ℕ) (part : Part) → slice_get p.parts.items j ≡ Some part → cache_pages n part.cache.0 ≡ cache_pages m part.cache.0
  part_pages_kept k p alive j part e =
      let c = part_cache m part.area part (all_at (λ (part : Part). IsPart m part.area part) p.parts.items j part (t.run k p alive).parts e) in
      pages_kept part.cache.0 c.0 c.1

  one_kept : (i : ℕ) (o : Option Process) → slice_get table i ≡ Some o → option_map (process_seen n) o ≡ option_map (process_seen m) o
  one_kept i None e = refl
  one_kept i (Some p) e = ap (λ (x : model.Process). Some x) (process_same m n p (part_pages_kept (i + 1) p (numbered_at table i p e)))

  pub processes_kept : map (option_map (process_seen n)) table ≡ map (option_map (process_seen m)) table
  processes_kept = map_same (option_map (process_seen n)) (option_map (process_seen m)) table one_kept

  pub image_pages_kept : (i : ℕ) (image : Image) → slice_get images i ≡ Some image → cache_pages n image.cache.0 ≡ cache_pages m image.cache.0
  image_pages_kept i image e = let d = t.images_there i image e in pages_kept image.cache.0 d.0 d.1

  pub images_kept : map (image_seen n) images ≡ map (image_seen m) images
  images_kept = map_same (image_seen n) (image_seen m) images (λ k image e. ap (λ (pages : List Page). let x : ℕ × List Page = (image.seg.0, pages) in x) (image_pages_kept k image e))
