use Rattle.std.proofs.Common.{◌≡◌, ◌<◌, ◌-◌, ℕ, Bool, false, List, length, get_or, set, Option, Some, None, sym, ap, ◌∙◌, arith, length-set}
use Rattle.page_tables.specs.FrameSets.{place_in, IsFrameSet}
use Rattle.page_tables.proofs.FrameSets.{known, read_last, read_place, seen_out, taken_out}
use Rattle.page_tables.proofs.frames.FrameSet.remove.Goals as goal

pub swap_remove-frame-requires : goal.swap_remove-frame-requires
swap_remove-frame-requires c =
    let places = c.self.inside.places.items in
    let stood = read_place places c.args.self.now c.args.frame.0 c.unwrap-place.result c.index.result.now c.self.view_is c.requires c.index.ensures c.unwrap-place.ensures in
    omega (arith, (c.self.invariant.0.there c.args.frame.0 c.unwrap-place.result stood).0, c.self.inside.frames.ok.0)

pub index_mut-requires : goal.index_mut-requires
index_mut-requires c =
    let frames = c.self.inside.frames.items in
    let places = c.self.inside.places.items in
    let is = c.self.invariant.0 in
    let stood = read_place places c.args.self.now c.args.frame.0 c.unwrap-place.result c.index.result.now c.self.view_is c.requires c.index.ensures c.unwrap-place.ensures in
    let some : c.unwrap-place.result < length frames = (is.there c.args.frame.0 c.unwrap-place.result stood).0 in
    let size : c.len.result ≡ length frames = omega (arith, c.len.ensures, c.self.inside.frames.ok.0) in
    let is_last = read_last frames c.index-last.result.now c.len.result size (omega (arith, some, size)) c.index-last.ensures in
    let at : place_in places c.index-last.result.now ≡ Some (length frames - 1) = ap (place_in places) is_last ∙ is.stands (length frames - 1) (omega (arith, some)) in
    omega (arith, known places c.index-last.result.now (length frames - 1) at, c.self.inside.places.ok.0)

pub invariant_of-self : goal.invariant_of-self
invariant_of-self c =
    let frames : List ℕ = c.self.inside.frames.items in
    let places : List (Option ℕ) = c.self.inside.places.items in
    let new : List ℕ = c.swap_remove-frame.new.self.items in
    let is : IsFrameSet frames places = c.self.invariant.0 in
    let f : ℕ = c.args.frame.0 in
    let p : ℕ = c.unwrap-place.result in
    let last : ℕ = c.index-last.result.now in
    let stood = read_place places c.args.self.now f p c.index.result.now c.self.view_is c.requires c.index.ensures c.unwrap-place.ensures in
    let some : p < length frames = (is.there f p stood).0 in
    let size : c.len.result ≡ length frames = omega (arith, c.len.ensures, c.self.inside.frames.ok.0) in
    let is_last = read_last frames last c.len.result size (omega (arith, some, size)) c.index-last.ensures in
    let by = c.swap_remove-frame.ensures.by_index in (
      taken_out frames new places f p last is stood is_last
          (omega (arith, c.swap_remove-frame.ensures.len, c.self.inside.frames.ok.0, c.swap_remove-frame.new.self.ok.0))
          (λ more. by.0 0 (omega (arith, more, c.self.inside.frames.ok.0)) ∙ ap (λ (k : ℕ). get_or frames (k - 1) 0) c.self.inside.frames.ok.0 ∙ sym is_last)
          (λ k other within. by.1 k 0 other (omega (arith, within, c.self.inside.frames.ok.0))),
      omega (arith, c.self.invariant.1, c.swap_remove-frame.ensures.capacity, length-set (set places last (Some p)) f None, length-set places last (Some p)),
    )

pub returns : goal.returns
returns c =
    let frames : List ℕ = c.self.inside.frames.items in
    let places : List (Option ℕ) = c.self.inside.places.items in
    let is : IsFrameSet frames places = c.self.invariant.0 in
    let f : ℕ = c.args.frame.0 in
    let p : ℕ = c.unwrap-place.result in
    let last : ℕ = c.index-last.result.now in
    let stood = read_place places c.args.self.now f p c.index.result.now c.self.view_is c.requires c.index.ensures c.unwrap-place.ensures in
    let some : p < length frames = (is.there f p stood).0 in
    let size : c.len.result ≡ length frames = omega (arith, c.len.ensures, c.self.inside.frames.ok.0) in
    let is_last = read_last frames last c.len.result size (omega (arith, some, size)) c.index-last.ensures in
    seen_out places f p last (length frames - 1) (ap (place_in places) is_last ∙ is.stands (length frames - 1) (omega (arith, some)))
    ∙ ap (λ (s : List Bool). set s f false) c.self.view_is
