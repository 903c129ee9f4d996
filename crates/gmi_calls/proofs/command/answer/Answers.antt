use Rattle.gmi_calls.proofs.Ready.{fits_after, live_after, living_after, made_after}
use Rattle.gmi_calls.proofs.command.answer.Goals as goal

pub returns-clause-fits : goal.returns-clause-fits
returns-clause-fits g c = fits_after _ _ _ _ _ _ _ _ _ c.call.ensures.answers c.call.ensures.page c.requires.fits

pub returns-clause-live : goal.returns-clause-live
returns-clause-live g c = λ few. live_after _ _ _ _ _ _ _ c.call.ensures.answers few

pub returns-clause-living : goal.returns-clause-living
returns-clause-living g c = λ few. living_after _ _ _ _ _ _ _ c.call.ensures.answers few

pub returns-clause-made_little : goal.returns-clause-made_little
returns-clause-made_little g c = λ few. made_after _ _ _ _ _ _ _ _ _ c.call.ensures.answers few c.call.ensures.made
