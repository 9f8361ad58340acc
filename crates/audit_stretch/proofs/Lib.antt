mod BitLaws
