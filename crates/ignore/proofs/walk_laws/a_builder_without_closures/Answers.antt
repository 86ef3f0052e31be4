use Rattle.ignore.proofs.walk_laws.a_builder_without_closures.Goals as goal

pub returns-clause-answers : goal.returns-clause-answers
returns-clause-answers g c = λ plain none. record {
  passes = λ keep. rw none ((λ h. h), (λ h. h));
  compares = λ cmp. rw plain ((λ h. h), (λ h. h));
}

pub returns-clause-scenes : goal.returns-clause-scenes
returns-clause-scenes g c = λ tree outside s plain none scene. record {
  tree = scene.tree;
  loads = scene.loads;
  settings = scene.settings;
  outside = scene.outside;
  device = scene.device;
  filter = rw none scene.filter;
  sorted = rw plain scene.sorted;
}
