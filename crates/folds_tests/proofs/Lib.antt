mod TestProfiles
