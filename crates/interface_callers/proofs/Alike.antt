-- Machines that are alike but for the bytes of their pages: with the same actors, and as many pages
-- in each cache.
use Rattle.std.proofs.Common.{◌≡◌, ℕ, ◌-◌, List, [], ◌∷◌, length, map, Option, Some, None, refl, sym, ap, subst, ◌∙◌, arith}
use Rattle.std.specs.Prelude.{option_map, sum_by}
use Rattle.std.proofs.lemmas.List.{length-map, map-set}
use Rattle.std.proofs.lemmas.List.Sums.{sum_by-cons}
use Rattle.std.proofs.lemmas.Option.{slice_get-map}
use Rattle.vm_model.proofs.Parts.Lists.{numbered-map, numbered_place}
use Rattle.interface_callers.proofs.Words.{Cache, Machine, blank, blank_cache, cache_of, live_pages, numbered, pages_in, put_cache}
use Rattle.interface_callers.proofs.Blanks.{emptied}
use Rattle.interface_callers.proofs.Lists.{mapped_some, put_back, some_then, then_same}

-- as many pages, of the same segment
pub record IsLike (c d : Cache) : Type 0 where
  pub segment : d.segment ≡ c.segment
  pub many : length d.pages ≡ length c.pages

abbrev Shape : Type 0
Shape = Option ℕ × ℕ

abbrev pub shape_of : Cache → Option ℕ × ℕ
shape_of c = (c.segment, length c.pages)

abbrev pub shapes : Machine → List (Option (Option ℕ × ℕ))
shapes m = map (option_map shape_of) m.caches

pub record HasShape (m n : Machine) : Type 0 where
  pub page : n.page_bytes ≡ m.page_bytes
  pub actors : n.actors ≡ m.actors
  pub shape : shapes n ≡ shapes m

pub shape_self : (m : Machine) → HasShape m m
shape_self m = record { page = refl; actors = refl; shape = refl }

pub shape_back : (m n : Machine) → HasShape m n → HasShape n m
shape_back m n l = record { page = sym l.page; actors = sym l.actors; shape = sym l.shape }

pub shape_then : (m n o : Machine) → HasShape m n → HasShape n o → HasShape m o
shape_then m n o l k = record { page = k.page ∙ l.page; actors = k.actors ∙ l.actors; shape = k.shape ∙ l.shape }

-- the machine without bytes
pub blank_shape : (w : Machine) → HasShape w (blank w)
blank_shape w = record {
  page = refl;
  actors = refl;
  shape = then_same (option_map shape_of) (option_map blank_cache) (option_map shape_of) (some_then shape_of blank_cache shape_of (λ c i. (c.segment, length-map c.pages emptied i))) w.caches;
}

-- a machine that is this one but for its bytes
pub whole_shape : (m w : Machine) → m ≡ blank w → HasShape m w
whole_shape m w is = subst (λ (x : Machine). HasShape x w) (sym is) (shape_back w (blank w) (blank_shape w))

-- a cache becomes one like it
pub shape_put : (m : Machine) (k : ℕ) (c d : Cache) → cache_of m k ≡ Some c → IsLike c d → HasShape m (put_cache m k d)
shape_put m k c d there like = record {
  page = refl;
  actors = refl;
  shape = map-set (option_map shape_of) m.caches (k - 1) (Some d)
      ∙ put_back (shapes m) (k - 1) (Some (shape_of d)) (slice_get-map (option_map shape_of) m.caches (k - 1) ∙ ap (option_map (option_map shape_of)) (numbered_place m.caches k c there).1
      ∙ (λ i. Some (Some (sym like.segment i, sym like.many i))));
}

-- What is alike

pub shape_cache : (m n : Machine) → HasShape m n → (k : ℕ) (c : Cache) → cache_of m k ≡ Some c → (d : Cache) × (cache_of n k ≡ Some d) × IsLike c d
shape_cache m n l k c there =
    let d = mapped_some shape_of (cache_of n k) (shape_of c)
    (sym (numbered-map shape_of n.caches k) ∙ ap (λ (xs : List (Option Shape)). numbered xs k) l.shape ∙ numbered-map shape_of m.caches k ∙ ap (option_map shape_of) there) in
    (d.0, d.1, record { segment = ap (λ (s : Shape). s.0) d.2; many = ap (λ (s : Shape). s.1) d.2 })

abbrev size : Option Shape → ℕ
size None = 0
size (Some s) = s.1

size_of : (o : Option Cache) → size (option_map shape_of o) ≡ pages_in o
size_of None = refl
size_of (Some c) = refl

sizes : (cs : List (Option Cache)) → sum_by pages_in cs ≡ sum_by size (map (option_map shape_of) cs)
sizes [] = refl
sizes (c ∷ cs) = omega (arith, sum_by-cons pages_in c cs, sum_by-cons size (option_map shape_of c) (map (option_map shape_of) cs), size_of c, sizes cs)

pub shape_live : (m n : Machine) → HasShape m n → live_pages n ≡ live_pages m
shape_live m n l = sizes n.caches ∙ ap (sum_by size) l.shape ∙ sym (sizes m.caches)

-- no segment names a cache
abbrev pub AllTemporary : Machine → Type 0
AllTemporary m = (cache : ℕ) (c : Cache) → cache_of m cache ≡ Some c → c.segment ≡ None

pub still_temporary : (m n : Machine) → HasShape m n → AllTemporary m → AllTemporary n
still_temporary m n l all k d there = let c = shape_cache n m (shape_back m n l) k d there in sym c.2.segment ∙ all k c.0 c.1
