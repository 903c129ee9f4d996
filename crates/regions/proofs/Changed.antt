-- A region that becomes another, or two.
use Rattle.std.proofs.Common.{◌≡◌, ℕ, suc, ◌+◌, ◌-◌, ◌<◌, ◌≤◌, List, [], ◌∷◌, length, get_or, set, map, Option, Some, None, sym, ap, ◌∙◌, subst, arith, rules}
use Rattle.std.specs.Prelude.{insert, IsSome, IsSomeAnd}
use Rattle.stretches.specs.Leaves.{Leaves, entries}
use Rattle.stretches.specs.Spots.{SameSpots, index}
use Rattle.stretches.specs.declared.spot.Spot.{Spot}
use Rattle.vm_model.specs.Machine as model
use Rattle.vm_model.specs.Regions.{region_among, back_of, replace_region, split_at}
use Rattle.regions.specs.AddressSpace.{AddressSpace, AreInOrder}
use Rattle.regions.specs.Seen.{region_seen, IsPlaceOf}
use Rattle.regions.specs.declared.region.Region.{Region}
use Rattle.regions.proofs.Found.{among_found, one_instead, two_instead}
use Rattle.regions.proofs.Ordered.{KeepsOrder, replace_keeps, split_keeps}

-- what is seen of regions in leaves
abbrev pub space : ℕ → Leaves Region → AddressSpace
space b l = record { page_bytes = b; spare = l.places - length (entries l); regions = map region_seen (entries l) }

-- where as many regions are there as before, there is as much room
pub as_many : (b : ℕ) (l m : Leaves Region) (xs : List Region) (rs : model.Actor) → m.places ≡ l.places → entries m ≡ xs → length xs ≡ length (entries l) → map region_seen xs ≡ rs
    → space b m ≡ record (space b l) { regions = rs }
as_many b l m xs rs same is many seen =
    let spare : m.places - length (entries m) ≡ l.places - length (entries l) = omega (arith, same, ap length is, many) in
    let there : map region_seen (entries m) ≡ rs = ap (map region_seen) is ∙ seen in
    cc

-- where one more is there, there is room for one less
pub one_more : (b : ℕ) (l m : Leaves Region) (xs : List Region) (rs : model.Actor) → m.places ≡ l.places → entries m ≡ xs → length xs ≡ length (entries l) + 1 → map region_seen xs ≡ rs
    → space b m ≡ record (space b l) { spare = l.places - length (entries l) - 1; regions = rs }
one_more b l m xs rs same is many seen =
    let spare : m.places - length (entries m) ≡ l.places - length (entries l) - 1 = omega (arith, same, ap length is, many) in
    let there : map region_seen (entries m) ≡ rs = ap (map region_seen) is ∙ seen in
    cc

-- one region is put in the place of another, and one behind it
pub put_both : (l m n : Leaves Region) (p : Spot) (x y : Region) → entries m ≡ set (entries l) (index l p) x → SameSpots l m → entries n ≡ insert (entries m) (index m p + 1) y
    → entries n ≡ insert (set (entries l) (index l p) x) (index l p + 1) y
put_both l m n p x y is same also =
    also ∙ ap (λ (ys : List Region). insert ys (index m p + 1) y) is ∙ ap (λ (j : ℕ). insert (set (entries l) (index l p) x) (j + 1) y) (same.indexes p)

pub is_there : (o : Option model.Region) (P : model.Region → Type 0) → IsSomeAnd o P → IsSome o
is_there None P h = search rules
is_there (Some x) P h = search rules

-- what is so of the region with the number is so of the one that was found
pub so_of_found : (n : ℕ) (rs : List Region) (k : ℕ) (d : Region) (P : model.Region → Type 0) → IsPlaceOf n rs k → IsSomeAnd (region_among n (map region_seen rs)) P
    → P (region_seen (get_or rs k d))
so_of_found n rs k d P p h = subst (λ (o : Option model.Region). IsSomeAnd o P) (among_found n rs k d p) h

pub changed : (n b : ℕ) (by : model.Region → List model.Region) (rs : List Region) (k : ℕ) (d x : Region) → IsPlaceOf n rs k
    → by (region_seen (get_or rs k d)) ≡ region_seen x ∷ [] → ((y : model.Region) → KeepsOrder b y (by y)) → AreInOrder b 0 (map region_seen rs)
    → record { there : map region_seen (set rs k x) ≡ replace_region n by (map region_seen rs); order : AreInOrder b 0 (map region_seen (set rs k x)) }
changed n b by rs k d x p e keeps o =
    let there = one_instead n by rs k d x p e in
    record {
      there = sym there;
      order = subst (AreInOrder b 0) there
          (replace_keeps n b 0 by (region_seen (get_or rs k d)) (map region_seen rs) (among_found n rs k d p) (keeps (region_seen (get_or rs k d))) o);
    }

-- the region that was read at the place becomes one of its first pages and one of the others
pub cut : (n b pages fresh : ℕ) (rs : List Region) (k : ℕ) (read x y : Region) → IsPlaceOf n rs k → 1 ≤ pages
    → IsSomeAnd (region_among n (map region_seen rs)) (λ r. pages < r.pages) → read ≡ get_or rs k read
    → region_seen x ≡ record (region_seen read) { pages = pages } → region_seen y ≡ back_of b pages fresh (region_seen read)
    → AreInOrder b 0 (map region_seen rs)
    → record {
      there : map region_seen (insert (set rs k x) (k + 1) y) ≡ replace_region n (split_at b pages fresh) (map region_seen rs);
      order : AreInOrder b 0 (map region_seen (insert (set rs k x) (k + 1) y));
    }
cut n b pages fresh rs k read x y p some fewer at front back o =
    let by = split_at b pages fresh in
    let fewer_here = so_of_found n rs k read (λ r. pages < r.pages) p fewer in
    let front_of : record (region_seen (get_or rs k read)) { pages = pages } ≡ region_seen x =
    ap (λ (r : Region). record (region_seen r) { pages = pages }) (sym at) ∙ sym front in
    let back_is : back_of b pages fresh (region_seen (get_or rs k read)) ≡ region_seen y =
    ap (λ (r : Region). back_of b pages fresh (region_seen r)) (sym at) ∙ sym back in
    let next : suc k ≡ k + 1 = omega arith in
    let parts : by (region_seen (get_or rs k read)) ≡ region_seen x ∷ region_seen y ∷ [] = cc in
    let there : replace_region n by (map region_seen rs) ≡ map region_seen (insert (set rs k x) (k + 1) y) =
    two_instead n by rs k read x y p parts ∙ ap (λ (j : ℕ). map region_seen (insert (set rs k x) j y)) next in
    record {
      there = sym there;
      order = subst (AreInOrder b 0) there
          (replace_keeps n b 0 by (region_seen (get_or rs k read)) (map region_seen rs) (among_found n rs k read p)
          (split_keeps b pages fresh (region_seen (get_or rs k read)) some fewer_here) o);
    }
