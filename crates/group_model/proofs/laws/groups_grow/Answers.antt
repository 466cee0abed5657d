use Rattle.group_model.proofs.Growing.{steps_grow, replies_stay, states_stay}
use Rattle.group_model.specs.Runs.{after_steps}
use Rattle.group_model.proofs.laws.groups_grow.Goals as goal

pub returns-clause-grow : goal.returns-clause-grow
returns-clause-grow c = steps_grow

pub returns-clause-replies : goal.returns-clause-replies
returns-clause-replies c = λ m g steps. replies_stay m g.common (after_steps m g steps).common (steps_grow m g steps)

pub returns-clause-states : goal.returns-clause-states
returns-clause-states c = λ m g steps n h. states_stay m g.common (after_steps m g steps).common (steps_grow m g steps) n h
