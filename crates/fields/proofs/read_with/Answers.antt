use Rattle.fields.proofs.read_with.Goals as goal

pub returns-in-Bar : goal.returns-in-Bar
returns-in-Bar c = rw c.in-Bar.is

pub returns-in-LineFeed : goal.returns-in-LineFeed
returns-in-LineFeed c = rw c.in-LineFeed.is
