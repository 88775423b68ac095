use Rattle.system.proofs.version_space.tell_version.Goals as goal

pub returns : goal.returns
returns c d mounted are = record {
  before = c.frees_of.ensures.before d mounted are;
  from = c.frees_of.ensures.from;
  alone = c.alone_at.ensures d mounted are;
}
