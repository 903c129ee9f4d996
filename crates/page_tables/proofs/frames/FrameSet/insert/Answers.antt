use Rattle.std.proofs.Common.{◌≡◌, ◌<◌, ◌∷◌, ◌++◌, ℕ, Bool, true, false, not, List, [], length, set, map, Option, Some, None, refl, sym, ap, ◌∙◌, subst, arith, length-set}
use Rattle.std.specs.Prelude.{is_some}
use Rattle.std.proofs.lemmas.List.{length-map}
use Rattle.page_tables.specs.FrameSets.{place_in, IsFrameSet}
use Rattle.page_tables.proofs.FrameSets.{put_in, room_for, seen_already, seen_in}
use Rattle.page_tables.proofs.LinkReads.{read_as}
use Rattle.page_tables.proofs.frames.FrameSet.insert.Goals as goal

-- the frame is one of them, and where it stands was read
below : (places : List (Option ℕ)) (now : List Bool) (f : ℕ) → map is_some places ≡ now → f < length now → f < length places
below places now f view h = omega (arith, h, ap (λ (s : List Bool). length s) view, length-map places is_some)

nowhere : (o : Option ℕ) → is_some o ≡ false → o ≡ None
nowhere None e = refl
nowhere (Some p) e = absurd (cc)

somewhere : (o : Option ℕ) → is_some o ≡ true → (p : ℕ) × (o ≡ Some p)
somewhere None e = absurd (cc)
somewhere (Some p) e = (p, refl)

pub push_reserved-requires : goal.push_reserved-requires
push_reserved-requires c =
    let places = c.self.inside.places.items in
    let f = c.args.frame.0 in
    let h = below places c.args.self.now f c.self.view_is c.requires in
    let none = read_as places f c.index.result.now None h c.index.ensures ∙ nowhere c.index.result.now (c.is_none.ensures ∙ ap not c.if-is_none.true) in
    omega (arith, room_for c.self.inside.frames.items places f c.self.invariant.0 h none, c.self.invariant.1, c.self.inside.frames.ok.0)

pub invariant_of-self : goal.invariant_of-self
invariant_of-self c =
    let frames : List ℕ = c.self.inside.frames.items in
    let places : List (Option ℕ) = c.self.inside.places.items in
    let f : ℕ = c.args.frame.0 in
    let h = below places c.args.self.now f c.self.view_is c.requires in
    let none : place_in places f ≡ None = read_as places f c.index.result.now None h c.index.ensures ∙ nowhere c.index.result.now (c.is_none.ensures ∙ ap not c.if-is_none.true) in
    let size : length frames ≡ c.len.result = omega (arith, c.len.ensures, c.self.inside.frames.ok.0) in (
      subst (λ (xs : List ℕ). IsFrameSet xs (set places f (Some c.len.result))) (sym c.push_reserved.ensures.items)
          (subst (λ (n : ℕ). IsFrameSet (frames ++ f ∷ []) (set places f (Some n))) size (put_in frames places f c.self.invariant.0 h none)),
      omega (arith, c.self.invariant.1, c.push_reserved.ensures.capacity, length-set places f (Some c.len.result)),
    )

pub returns-then-is_none : goal.returns-then-is_none
returns-then-is_none c = seen_in c.self.inside.places.items c.args.frame.0 c.len.result ∙ ap (λ (s : List Bool). set s c.args.frame.0 true) c.self.view_is

pub returns-else-is_none : goal.returns-else-is_none
returns-else-is_none c =
    let places : List (Option ℕ) = c.self.inside.places.items in
    let f : ℕ = c.args.frame.0 in
    let h = below places c.args.self.now f c.self.view_is c.requires in
    let at = somewhere c.index.result.now (c.is_none.ensures ∙ ap not c.if-is_none.false) in
    subst (λ (s : List Bool). s ≡ set s f true) c.self.view_is (seen_already places f at.0 (read_as places f c.index.result.now None h c.index.ensures ∙ at.1))
