mod SignLaws
