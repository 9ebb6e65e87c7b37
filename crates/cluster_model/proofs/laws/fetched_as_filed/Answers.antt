use Rattle.cluster_model.proofs.laws.fetched_as_filed.Goals as goal

pub returns : goal.returns
returns c = λ confirm w sound id octets others a b. sound.contents.one id octets others a b
