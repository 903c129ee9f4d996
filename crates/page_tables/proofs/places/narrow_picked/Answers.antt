use Rattle.std.proofs.Common.{◌<◌, ℕ, Bool, true, false, List, length, set, refl, sym, ap, ◌∙◌, subst, arith, length-set}
use Rattle.std.proofs.lemmas.List.{length-replicate}
use Rattle.vm_ids.proofs.Places.{true_below}
use Rattle.page_tables.specs.FrameSets.{count_in}
use Rattle.page_tables.proofs.FrameSets.{one_fewer}
use Rattle.page_tables.proofs.Narrowing.{IsAsking, asking_begins, asking_ends, asking_leaves, asking_picks, kept_then}
use Rattle.page_tables.proofs.places.narrow_picked.Goals as goal

pub loop-frame-init : goal.loop-frame-init
loop-frame-init g c = record {
  lists = refl;
  on = c.requires.on;
  writing = refl;
  asked = ap (λ (s : List Bool). length s) c.requires.kept.none_asked ∙ length-replicate (length c.args.writing.now) false;
  asking = asking_begins c.args.entries.now c.args.by_frame.now c.args.writing.now c.args.asked.now _ c.requires.on c.requires.kept;
}

pub loop-frame-preserved-then-picks : goal.loop-frame-preserved-then-picks
loop-frame-preserved-then-picks g c =
    let i = c.loop-frame.invariant in
    let w : List Bool = c.loop-frame.writing in
    let f : ℕ = c.in-Some.frame.0 in
    let answer : ℕ → Bool → Type 0 = λ frame picked. goal.F-post g c.args.picks (record { 0 = frame }) picked in
    let so = subst (λ (b : Bool). goal.F-post g c.args.picks c.in-Some.frame b) c.if-picks.true c.picks.ensures in
    record {
      lists = c.narrow.ensures.lists ∙ i.lists;
      on = c.narrow.ensures.on;
      writing = ap (λ (s : List Bool). length s) c.remove.ensures ∙ length-set w f false ∙ i.writing;
      asked = i.asked;
      asking = subst (λ (s : List Bool). IsAsking c.args.entries.now c.narrow.new.entries s c.loop-frame.asked answer) (sym c.remove.ensures)
          (asking_picks c.args.entries.now c.loop-frame.entries c.narrow.new.entries w c.loop-frame.asked answer f i.asking c.in-Some.ensures c.narrow.ensures.narrowed so);
    }

pub loop-frame-preserved : goal.loop-frame-preserved
loop-frame-preserved g c =
    let i = c.loop-frame.invariant in
    let w : List Bool = c.loop-frame.writing in
    let asked : List Bool = c.loop-frame.asked in
    let f : ℕ = c.in-Some.frame.0 in
    let answer : ℕ → Bool → Type 0 = λ frame picked. goal.F-post g c.args.picks (record { 0 = frame }) picked in
    let so = subst (λ (b : Bool). goal.F-post g c.args.picks c.in-Some.frame b) c.if-picks.false c.picks.ensures in
    let below : f < length asked = omega (arith, true_below w f c.in-Some.ensures, i.writing, i.asked) in
    record {
      lists = i.lists;
      on = i.on;
      writing = ap (λ (s : List Bool). length s) c.remove.ensures ∙ length-set w f false ∙ i.writing;
      asked = ap (λ (s : List Bool). length s) c.insert.ensures ∙ length-set asked f true ∙ i.asked;
      asking = subst (λ (s : List Bool). IsAsking c.args.entries.now c.loop-frame.entries s c.insert.new.self answer) (sym c.remove.ensures)
          (subst (λ (s : List Bool). IsAsking c.args.entries.now c.loop-frame.entries (set w f false) s answer) (sym c.insert.ensures)
          (asking_leaves c.args.entries.now c.loop-frame.entries w asked answer f i.asking c.in-Some.ensures below so));
    }

pub loop-frame-smaller : goal.loop-frame-smaller
loop-frame-smaller g c =
    let less : count_in c.remove.new.self < count_in c.loop-frame.writing = subst (λ (s : List Bool). count_in s < count_in c.loop-frame.writing) (sym c.remove.ensures) (one_fewer c.loop-frame.writing c.in-Some.frame.0 c.in-Some.ensures) in
    less

pub returns-clause-narrowed : goal.returns-clause-narrowed
returns-clause-narrowed g c = asking_ends c.args.entries.now c.loop-frame.entries c.loop-frame.writing c.loop-frame.asked _ c.loop-frame.invariant.asking c.in_default.ensures

pub returns-clause-kept : goal.returns-clause-kept
returns-clause-kept g c =
    let i = c.loop-frame.invariant in
    let kept = c.requires.kept in
    kept_then c.args.entries.now c.loop-frame.entries c.loop-frame.by_frame c.loop-frame.writing c.loop-frame.asked _ i.asking c.in_default.ensures i.on
    (omega (arith, i.lists, kept.exact.room, i.asked)) (omega (arith, kept.exact.few, i.asked)) (i.writing ∙ sym i.asked) (omega (arith, kept.sizes, i.asked))
