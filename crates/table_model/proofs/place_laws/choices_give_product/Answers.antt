use Rattle.table_model.proofs.PlaceFacts.{choices_give_product}
use Rattle.table_model.proofs.place_laws.choices_give_product.Goals as goal

pub returns : goal.returns
returns g c = choices_give_product
