use Rattle.std.proofs.Common.{◌≡◌, ◌<◌, ◌≤◌, Option, Some, None, Err, refl, sym, subst, ◌∙◌, arith}
use Rattle.std.specs.Prelude.{IfSome, Result}
use Rattle.vm_ids.specs.declared.numbers.RegionId.{RegionId}
use Rattle.vm_ids.specs.declared.refusal.Refusal.{Refusal}
use Rattle.vm_ids.specs.declared.refusal.Refusal.TheVariants.{BadAddress, NoRegion, TooMany}
use Rattle.vm_ids.specs.declared.reply.Trouble.{Trouble}
use Rattle.vm_ids.specs.declared.reply.Trouble.TheVariants.{Refused}
use Rattle.vm_model.specs.declared.limits.TheConstants.{MOST_MADE}
use Rattle.contexts.proofs.Told.{bad_address, no_refusal, no_region, too_many}
use Rattle.contexts.proofs.contexts.Contexts.split.Goals as goal

refused : (o : Option Refusal) (result : Result RegionId Trouble) (r : Refusal) → o ≡ Some r → result ≡ Err (Refused r) → IfSome o (λ x. result ≡ Err (Refused x))
refused o result r e is = subst (λ (p : Option Refusal). IfSome p (λ x. result ≡ Err (Refused x))) (sym e) is

not_refused : (o : Option Refusal) (result : Result RegionId Trouble) → o ≡ None → IfSome o (λ x. result ≡ Err (Refused x))
not_refused o result e = subst (λ (p : Option Refusal). IfSome p (λ x. result ≡ Err (Refused x))) (sym e) tt

pub returns-in_default-clause-refused : goal.returns-in_default-clause-refused
returns-in_default-clause-refused c = refused _ _ NoRegion (no_region c.args.self.now c.args.region.0 c.args.pages (sym c.status.ensures ∙ c.in_default.is)) refl

pub returns-in_default-clause-made : goal.returns-in_default-clause-made
returns-in_default-clause-made c = λ none.
    let e = sym (no_region c.args.self.now c.args.region.0 c.args.pages (sym c.status.ensures ∙ c.in_default.is)) ∙ none in
    absurd (cc e)

pub returns-then-status-pages-clause-refused : goal.returns-then-status-pages-clause-refused
returns-then-status-pages-clause-refused c =
    refused _ _ BadAddress (bad_address c.args.self.now c.args.region.0 c.args.pages c.in-Some.status (sym c.status.ensures ∙ c.in-Some.is) c.if-status-pages.true) refl

pub returns-then-status-pages-clause-made : goal.returns-then-status-pages-clause-made
returns-then-status-pages-clause-made c = λ none.
    let e = sym (bad_address c.args.self.now c.args.region.0 c.args.pages c.in-Some.status (sym c.status.ensures ∙ c.in-Some.is) c.if-status-pages.true) ∙ none in
    absurd (cc e)

pub returns-then-regions_made-ge-MOST_MADE-clause-refused : goal.returns-then-regions_made-ge-MOST_MADE-clause-refused
returns-then-regions_made-ge-MOST_MADE-clause-refused c =
    let many : MOST_MADE ≤ c.args.self.now.regions_made = omega (arith, c.if-regions_made-ge-MOST_MADE.true, c.regions_made.ensures.made) in
    refused _ _ TooMany (too_many c.args.self.now c.args.region.0 c.args.pages c.in-Some.status (sym c.status.ensures ∙ c.in-Some.is) c.if-status-pages.false many) refl

pub returns-then-regions_made-ge-MOST_MADE-clause-made : goal.returns-then-regions_made-ge-MOST_MADE-clause-made
returns-then-regions_made-ge-MOST_MADE-clause-made c = λ none.
    let many : MOST_MADE ≤ c.args.self.now.regions_made = omega (arith, c.if-regions_made-ge-MOST_MADE.true, c.regions_made.ensures.made) in
    let e = sym (too_many c.args.self.now c.args.region.0 c.args.pages c.in-Some.status (sym c.status.ensures ∙ c.in-Some.is) c.if-status-pages.false many) ∙ none in
    absurd (cc e)

pub returns-clause-refused : goal.returns-clause-refused
returns-clause-refused c =
    let few : c.args.self.now.regions_made < MOST_MADE = omega (arith, c.if-regions_made-ge-MOST_MADE.false, c.regions_made.ensures.made) in
    not_refused _ _ (no_refusal c.args.self.now c.args.region.0 c.args.pages c.in-Some.status (sym c.status.ensures ∙ c.in-Some.is) c.if-status-pages.false few)

pub returns-in_err-cut-clause-refused : goal.returns-in_err-cut-clause-refused
returns-in_err-cut-clause-refused c =
    let few : c.args.self.now.regions_made < MOST_MADE = omega (arith, c.if-regions_made-ge-MOST_MADE.false, c.regions_made.ensures.made) in
    not_refused _ _ (no_refusal c.args.self.now c.args.region.0 c.args.pages c.in-Some.status (sym c.status.ensures ∙ c.in-Some.is) c.if-status-pages.false few)
