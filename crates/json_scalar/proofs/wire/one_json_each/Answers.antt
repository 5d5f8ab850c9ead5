use Rattle.json_scalar.proofs.Readings.{val_data_injective, val_of-val_data, val_of-Ok}
use Rattle.json_scalar.proofs.wire.one_json_each.Goals as goal

pub returns-clause-one : goal.returns-clause-one
returns-clause-one c = val_data_injective

pub returns-clause-back : goal.returns-clause-back
returns-clause-back c = val_of-val_data

pub returns-clause-only : goal.returns-clause-only
returns-clause-only c = val_of-Ok
