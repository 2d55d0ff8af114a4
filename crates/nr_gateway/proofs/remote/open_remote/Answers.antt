use Rattle.nr_gateway.proofs.remote.open_remote.Goals as goal

pub returns-in-Err-clause-dials : goal.returns-in-Err-clause-dials
returns-in-Err-clause-dials g c = record { asked = c.in-Err.ensures.err_asked; ended = c.in-Err.ensures.err; lost = c.dial.ensures.lost; failed = c.in-Err.ensures.counted }

pub returns-in-Ok-share_opened-clause-dials : goal.returns-in-Ok-share_opened-clause-dials
returns-in-Ok-share_opened-clause-dials g c = record { asked = c.in-Ok.ensures.asked; made = c.in-Ok.ensures.made; lost = c.dial.ensures.lost; unfailing = c.in-Ok.ensures.counted }

pub returns-in-Err-share_opened-clause-dials : goal.returns-in-Err-share_opened-clause-dials
returns-in-Err-share_opened-clause-dials g c = record { asked = c.in-Ok.ensures.asked; made = c.in-Ok.ensures.made; lost = c.dial.ensures.lost; unfailing = c.in-Ok.ensures.counted }
